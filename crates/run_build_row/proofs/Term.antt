-- The row of a term, step by step: its fraction in lowest terms, its columns read off the sets, its row made blank and then built.
-- Main results: `term_makeable`, `term_built`. Assume nothing.
use mathlib.Core.Path.{◌≡◌}
use mathlib.Core.List.{List}
use Prim.Native.Nat.{ℕ, ◌*◌}
use native.Mathlib.Omega.{arith}
use lib.ListN.{set, length-set}
use lib.IntN.{ℤ}
use lib.Seq.{get_or-set_other}
use Rattle.set_members.specs.Sets.{holds}
use Rattle.fraction.specs.declared.Fraction.{Fraction}
use Rattle.rules_problem.specs.declared.Kind.{Kind}
use Rattle.rules_run.specs.Row.{COLUMNS}
use Rattle.run_table.specs.Step.{Step}
use Rattle.run_table.specs.Lists.{Lists, both}
use Rattle.run_build_row.specs.Buildable.{FactorOf}
use Rattle.run_build_row.specs.Contract.{Blanks, Makeable, Makes, TermBuildable, TermBuilt}
use Rattle.run_build_row.specs.Sparse.{may_hold}
use Rattle.run_build_row.proofs.Building.{sound_kept, built_after}
use Rattle.run_build_row.proofs.Sparse.{may_hold_covers, sparse_more}

module _ {kind : Kind} {t : ℕ} {nums dens : List ℤ} {sets : List ℕ} (asked : TermBuildable kind t (record { nums = nums; dens = dens; sets = sets })) where
  module _ {columns : ℕ} {blanked : Lists} (covers : (c : ℕ) → holds columns c ≡ may_hold sets t kind c) (blanks : Blanks t (both nums dens) blanked) where
    pub term_makeable : {factor : Fraction} → FactorOf kind factor → Makeable kind factor t columns blanked
    term_makeable fraction =
        let kept = blanks.kept in
        let rows = asked.rows in
        record {
          row = record {
            rows = record {
              room = record { few = asked.few; nums_fit = omega (arith, kept.nums_length, rows.nums_fit); dens_fit = omega (arith, kept.dens_length, rows.dens_fit) };
              sound = sound_kept (COLUMNS * t) (omega arith) kept rows.sound;
            };
            blank = blanks.blank;
          };
          inputs = asked.term.inputs;
          fraction = fraction;
          covered = may_hold_covers nums dens sets t rows.sound rows.sparse kind columns asked.term.inputs covers kept;
        }

    pub term_built : {step : Step} {nums' dens' : List ℤ} → Makes kind t columns step blanked (both nums' dens') → TermBuilt kind t step (record { nums = nums; dens = dens; sets = sets }) (record { nums = nums'; dens = dens'; sets = set sets t columns })
    term_built makes =
        let built = built_after blanks.kept makes.built in
        let few = asked.few in
        record {
          built = built;
          sparse = sparse_more t columns (omega (arith, asked.rows.size)) built.kept asked.rows.sparse makes.within;
          size = length-set sets t columns;
          others = λ k other. get_or-set_other sets t k columns 0 other;
        }
