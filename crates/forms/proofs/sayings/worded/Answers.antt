use Rattle.std.proofs.Common.{rules}
use Rattle.forms.specs.Items.{items_left}
use Rattle.forms.proofs.Worded.{no_word_known}
use Rattle.forms.proofs.sayings.worded.Goals as goal

pub returns-in_default : goal.returns-in_default
returns-in_default c = no_word_known c.args.word.now (items_left c.args.items) (search rules) (search rules) (search rules) (search rules) (search rules)

pub returns-in_default-3 : goal.returns-in_default-3
returns-in_default-3 c = no_word_known c.args.word.now (items_left c.args.items) (search rules) (search rules) (search rules) (search rules) (search rules)

pub returns-in_default-6 : goal.returns-in_default-6
returns-in_default-6 c = no_word_known c.args.word.now (items_left c.args.items) (search rules) (search rules) (search rules) (search rules) (search rules)

pub returns-in_default-7 : goal.returns-in_default-7
returns-in_default-7 c = no_word_known c.args.word.now (items_left c.args.items) (search rules) (search rules) (search rules) (search rules) (search rules)

pub returns-in_default-10 : goal.returns-in_default-10
returns-in_default-10 c = no_word_known c.args.word.now (items_left c.args.items) (search rules) (search rules) (search rules) (search rules) (search rules)

pub returns-in_default-19 : goal.returns-in_default-19
returns-in_default-19 c = no_word_known c.args.word.now (items_left c.args.items) (search rules) (search rules) (search rules) (search rules) (search rules)

pub returns-in_default-20 : goal.returns-in_default-20
returns-in_default-20 c = no_word_known c.args.word.now (items_left c.args.items) (search rules) (search rules) (search rules) (search rules) (search rules)
