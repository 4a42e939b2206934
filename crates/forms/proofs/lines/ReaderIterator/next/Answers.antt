use Rattle.std.proofs.Common.{length, refl, ap, arith, length-drop, length-take}
use Rattle.forms.proofs.Ends.{lines_from}
use Rattle.forms.proofs.lines.ReaderIterator.next.Goals as goal

pub returns : goal.returns
returns c =
    let self = c.args.self.now in
    let split =
    lines_from self.text.now self.position c.line_length-length.result c.min.result (omega arith)
    c.line_length-length.ensures.value c.min.ensures in
    record {
      steps =
          record {
            hands = split;
            counts = omega (arith, ap length split);
            lies = simp (length-take, length-drop) (omega arith);
            keeps = refl;
          };
      goes = record { on = λ _. (tt, tt, omega (arith, ap length split)); keeps = tt; rests = λ _. tt };
    }
