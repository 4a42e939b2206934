use Rattle.sheet.proofs.Called.{sheets_have_calls}
use Rattle.sheet.proofs.sheets.sheets_have_calls.Goals as goal

pub returns : goal.returns
returns c = sheets_have_calls
