-- What calls that add nothing to a queue's history leave of it: a put or a take that is refused, and a spend that finds nothing.

-- Left by any number of such calls, one after the other, where each leaves of the queue what u says.
pub data Left {Q : Type 0} (u : Q → Q → Type 0) (q : Q) : Q → Type 0 where
  none : Left u q q
  more : {q' q'' : Q} → Left u q q' → u q' q'' → Left u q q''
