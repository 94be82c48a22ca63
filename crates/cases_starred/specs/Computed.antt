-- The listing of a byte string, with every rule open so that it computes.
-- Main definition: `computed_text`. Assumes nothing.
use Rattle.std.specs.Prelude.{List, ℕ}
use Rattle.rules_run.specs.Run.{highest_number}
use Rattle.rules_outcome.specs.Computed.{computed_answer}
use Rattle.rules_listing.specs.Text.{ascii, decimal, digits}
use Rattle.rules_listing.specs.Line.{first_line, words_of, sign_of, fraction_text, term_text, piece, pieces, or_zero, row_line}
use Rattle.rules_listing.specs.Listing.{listing, listed, row_lines}

unfoldable pub computed_text : List ℕ → List ℕ
unfolding
    computed_answer
    listing
    listed
    row_lines
    first_line
    words_of
    sign_of
    fraction_text
    term_text
    piece
    pieces
    or_zero
    row_line
    ascii
    decimal
    digits
computed_text bytes = listing highest_number bytes
