-- `list_decimal::put_decimal` meets its contract: the number falls at each call. Assumes nothing.
use Rattle.std.proofs.Common.{rules}
use Rattle.list_decimal.proofs.Written.{digit_fits, tenth_fits, last_fits, wrote_digit, wrote_last}
use Rattle.list_decimal.proofs.+put_decimal.Goals as goal

pub returns-then-x-lt10 : goal.returns-then-x-lt10
returns-then-x-lt10 t c = search wrote_digit

pub returns : goal.returns
returns t c = search wrote_last

pub put_byte-requires : goal.put_byte-requires
put_byte-requires t c = search digit_fits

pub put_decimal-next-requires : goal.put_decimal-next-requires
put_decimal-next-requires t c = (search rules, search tenth_fits)

pub put_byte-requires-2 : goal.put_byte-requires-2
put_byte-requires-2 t c = search last_fits
