use Rattle.model.proofs.Slack.{slack_is_greatest}
use Rattle.model.proofs.laws.slack_is_greatest.Goals as goal

pub returns : goal.returns
returns c = slack_is_greatest
