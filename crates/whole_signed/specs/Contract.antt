-- What the signed operations ask for, and what they ensure.
-- Main definitions: `Summands`, `Product`. Assume nothing.
use Rattle.std.specs.Prelude.{◌≡◌, ◌<◌, ◌≤◌, ◌^◌, ℤ, nat_abs, ◌*ℤ◌}

-- Two numbers small enough that their sum fits 64 bits.
pub record Summands (a b : ℤ) : Type 0 where
  pub first : nat_abs a < 2 ^ 62
  pub second : nat_abs b < 2 ^ 62

-- r is the product of two numbers of 32 bits, which is no larger than 2^62.
pub record Product (a b r : ℤ) : Type 0 where
  pub is : r ≡ a *ℤ b
  pub small : nat_abs r ≤ 2 ^ 62
