-- What reading a value gives.
use Rattle.std.specs.Prelude.{ℕ, ◌/◌, ◌%◌, ◌^◌, Result}
use Rattle.answer.specs.declared.Refusal.{Refusal}
use Rattle.answer.specs.declared.Refusal.TheVariants as refusal
use Rattle.values.specs.declared.Fault.{Fault}
use Rattle.values.specs.declared.Fault.TheVariants.{Short, Bad}
use Rattle.values.specs.declared.words.Words.{Words}

-- a value's two words, and the place behind it
abbrev pub Read : Type 0
Read = Result (Words × ℕ) Fault

-- a number of one word, and the place behind it
abbrev pub Count : Type 0
Count = Result (ℕ × ℕ) Fault

-- a number of 128 bits, as two words
abbrev pub words : ℕ → Words
words v = record { low = v % 2 ^ 64; high = v / 2 ^ 64 }

-- EOF where the message ends inside a value, MALFORMED where one breaks its rule
abbrev pub refusal_of : Fault → Refusal
refusal_of Short = refusal.Eof
refusal_of Bad = refusal.Malformed
