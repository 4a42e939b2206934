-- Deadlines, spare ticks and accounts of every run, put together in proofs/Promise.antt.
use Rattle.model.proofs.Promise.{every_run_keeps_the_promise}
use Rattle.model.proofs.laws.every_run_keeps_the_promise.Goals as goal

pub returns : goal.returns
returns c = every_run_keeps_the_promise
