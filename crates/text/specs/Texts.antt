-- A text in a buffer. Assumes nothing.
use Rattle.std.specs.Prelude.{◌≡◌, ◌++◌, ℕ, ◌+◌, length, take}
use Rattle.model.specs.Numbers.{Bytes}

-- a text is put at a place of a buffer, and the place behind it is r; what lies further on is left open
pub record Appended (b b' : Bytes) (at r : ℕ) (text : Bytes) : Type 0 where
  pub size : length b' ≡ length b
  pub behind : r ≡ at + length text
  pub front : take r b' ≡ take at b ++ text
