-- A line whose word is none of those that are known.
use Rattle.std.proofs.Common.{◌≡◌, ℕ, false, List, None, codes}
use Rattle.std.specs.Str.{bytes_eq}
use Rattle.forms.specs.Sayings.{worded}

pub no_word_known : (word : List ℕ) (is : List (List ℕ)) → bytes_eq word (codes "sheet") ≡ false → bytes_eq word (codes "duty") ≡ false
    → bytes_eq word (codes "queue") ≡ false → bytes_eq word (codes "at") ≡ false → bytes_eq word (codes "end") ≡ false
    → None ≡ worded word is
no_word_known word is sheet duty queue at end = rw (sheet, duty, queue, at, end)
