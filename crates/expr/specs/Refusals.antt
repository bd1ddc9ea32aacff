-- Document 01's table of refusals: the number of each case and the two values that it carries. Definitions only.
use Rattle.std.specs.Prelude.{ℕ}
use Rattle.expr.specs.declared.refusal.Reason.{Reason}
use Rattle.expr.specs.declared.refusal.Refusal.{Refusal}
use Rattle.expr.specs.declared.refusal.Refusal.TheVariants.{WidthOutOfRange, WordCount, UnknownKind, OperandOutOfRange, TooDeep, WordsEnd, WordsLeftOver, NotUniform, OutputTooSmall, UnsupportedWidth, WidthMismatch, NarrowingExtension, WideningTruncation, NoFrame, NoWord}

-- the refusal of this number with the two values that it carries
abbrev pub carrying : ℕ → ℕ → ℕ → Reason
carrying n a b = record { number = n; first = a; second = b }

-- where it carries zeros
abbrev pub refusal : ℕ → Reason
refusal n = carrying n 0 0

-- 10 to 13 stand for the Rust's `InvalidArgument`; every other refusal carries zeros
abbrev pub reason_of : Refusal → Reason
reason_of WidthOutOfRange = refusal 1
reason_of WordCount = refusal 2
reason_of UnknownKind = refusal 3
reason_of OperandOutOfRange = refusal 4
reason_of TooDeep = refusal 5
reason_of WordsEnd = refusal 6
reason_of WordsLeftOver = refusal 7
reason_of NotUniform = refusal 8
reason_of OutputTooSmall = refusal 9
reason_of (UnsupportedWidth width) = carrying 10 width 0
reason_of (WidthMismatch left right) = carrying 11 left right
reason_of (NarrowingExtension target child) = carrying 12 target child
reason_of (WideningTruncation target child) = carrying 13 target child
reason_of NoFrame = refusal 14
reason_of NoWord = refusal 15
