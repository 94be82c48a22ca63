-- The lists that the run keeps, taken together: both lent lists, the sets, and the lookups as numbers, a head and three inputs of each term.
-- Main definitions: `Store`, `store`. Assume nothing.
use Rattle.std.specs.Prelude.{List, ℕ, ℤ}
use Rattle.run_table.specs.Work.{Work, work}

pub record Store : Type 0 where
  pub work : Work
  pub heads : List ℕ
  pub inputs : List ℕ

-- Of lists that a function writes into, `store nums.old dens.old ..` is what they hold when it begins, and with `.new` when it is over.
abbrev pub store : (nums dens : List ℤ) (heads inputs sets : List ℕ) → Store
store nums dens heads inputs sets = record { work = work nums dens sets; heads = heads; inputs = inputs }
