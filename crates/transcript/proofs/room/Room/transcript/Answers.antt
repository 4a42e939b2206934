use Rattle.std.proofs.Common.{sym, arith}
use Rattle.sheet.specs.Sheets.{set_by}
use Rattle.transcript.proofs.Sizes.{scripts_fit}
use Rattle.transcript.proofs.room.Room.transcript.Goals as goal

pub push_transcript-requires-clause-calls : goal.push_transcript-requires-clause-calls
push_transcript-requires-clause-calls c =
    omega (arith, scripts_fit c.args.text.now (set_by c.in-Ok.sheet) (sym c.in-Ok.ensures), c.args.self.large)

pub push_transcript-requires-clause-text : goal.push_transcript-requires-clause-text
push_transcript-requires-clause-text c =
    omega (arith, scripts_fit c.args.text.now (set_by c.in-Ok.sheet) (sym c.in-Ok.ensures), c.args.self.large)
