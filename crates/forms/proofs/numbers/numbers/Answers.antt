use Rattle.std.proofs.Common.{ℕ, List, sym, ap, ◌∙◌, subst, arith}
use Rattle.std.proofs.lemmas.List.{length-set}
use Rattle.forms.specs.Items.{bytes_of, items_left, numbers}
use Rattle.forms.proofs.Numbered.{Ahead, number_read}
use Rattle.forms.proofs.numbers.numbers.Goals as goal

pub loop-number-preserved : goal.loop-number-preserved
loop-number-preserved g c =
    let values = c.loop-number.number-items in
    let k = c.loop-number.number-index in
    let item = c.in_ok-item.item.bytes.now in
    let all = numbers g.row.N (items_left c.args.items) in (
      length-set values k c.value.result ∙ c.loop-number.invariant.0,
      rw c.value.ensures
          (number_read g.row.N k all
          (record {
            values = values;
            item = item;
            later = items_left c.next.new.self;
            before = omega arith;
            room = omega (arith, c.loop-number.invariant.0);
            is_digits = sym c.if-not-is_number.ensures;
            ahead =
                subst (λ (left : List (List ℕ)). Ahead g.row.N k values left all) (ap bytes_of c.in_ok-item.ensures.steps)
                c.loop-number.invariant.1;
          })),
    )
