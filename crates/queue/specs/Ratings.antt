-- How ratings are compared.
use Rattle.std.specs.Prelude.{ℕ, ◌*◌, Bool, nat_lt}
use Rattle.queue.specs.declared.ratings.Rating.{Rating}

-- A worth for so many units is more for one unit than another: worth / units > worth' / units', said without a quotient.
abbrev pub more_for_one : (worth units worth' units' : ℕ) → Bool
more_for_one worth units worth' units' = nat_lt (worth' * units) (worth * units')

-- a has more worth for a unit than b.
abbrev pub outrates : Rating → Rating → Bool
outrates a b = more_for_one a.worth a.units b.worth b.units
