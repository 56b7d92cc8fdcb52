-- What a message is read by, and what is read of it, as contracts see them.
use Rattle.std.specs.Prelude.{ℕ}
use Rattle.parts.specs.Parts.{Bytes}

-- a book, and the bytes of a message
pub record Source : Type 0 where
  pub book : Bytes
  pub message : Bytes

-- a text, and the number that it was found by
pub record Numbered : Type 0 where
  pub number : ℕ
  pub text : Bytes
