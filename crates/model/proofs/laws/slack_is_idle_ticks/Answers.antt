use Rattle.model.proofs.Slack.{slack_is_idle_ticks}
use Rattle.model.proofs.laws.slack_is_idle_ticks.Goals as goal

pub returns : goal.returns
returns c = slack_is_idle_ticks
