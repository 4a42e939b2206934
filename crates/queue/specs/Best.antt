-- Which errand the queue by worth chooses, said without an order of search.
use Rattle.std.specs.Prelude.{◌≡◌, ℕ, Bool, true, not, List, ◌∷◌, ◌++◌, Some, nat_le}
use Rattle.std.specs.List.{list_all}
use Rattle.model.specs.Histories.{Event, History, was_put}
use Rattle.queue.specs.Arrivals.{Rated, best_worth, better, by_worth}

-- One of those that came has the number n and is the best: it is better than each that came earlier, and none that came
-- later is better than it.
pub record Best (came : List Rated) (n : ℕ) : Type 0 where
  pub earlier : List Rated
  pub best : Rated
  pub later : List Rated
  pub parts : came ≡ earlier ++ best ∷ later
  pub number : best.errand.number ≡ n
  pub better_than_earlier : list_all (better best) earlier ≡ true
  pub none_later_better : list_all (λ a. not (better a best)) later ≡ true

-- What is put, if anything, has at least one unit.
abbrev pub puts_some : Event → Bool
puts_some (was_put e) = nat_le 1 e.units
puts_some event = true

-- After every history in which each errand was put with at least one unit, the queue by worth chooses the best of those that wait.
abbrev pub BestWorthIsBest : Type 0
BestWorthIsBest =
    (past : History) (n : ℕ) → list_all puts_some past ≡ true → best_worth past ≡ Some n → Best (by_worth past) n
