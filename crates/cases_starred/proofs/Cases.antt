-- The starred cases of document 01, computed from their bytes on the rules that the laws and the code use.
-- Main result: `starred_cases`. Assumes nothing.
use mathlib.Core.Path.{◌≡◌, refl}
use mathlib.Core.List.{map}
use Rattle.rules_outcome.specs.Computed.{computed_answer}
use Rattle.rules_listing.specs.Text.{ascii}
use Rattle.cases_starred.specs.Computed.{computed_text}
use Rattle.cases_starred.specs.Table.{case_a, case_b, case_c, case_d, case_e, case_h, case_i, case_j, case_j2, case_k, case_l, listing_a, table}

-- Of each starred case the rules say what document 01 says: word, place and count; and case A's listing is its five lines.
pub starred_cases : (map (λ case. computed_answer case.problem) table ≡ map (λ case. case.says) table) × (computed_text case_a.problem ≡ ascii listing_a)
unfolding computed_answer computed_text case_a case_b case_c case_d case_e case_h case_i case_j case_j2 case_k case_l listing_a table
starred_cases = (refl, refl)
