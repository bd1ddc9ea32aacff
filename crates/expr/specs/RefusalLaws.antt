-- Every refusal has a number of its own: a promise that goes by reasons fixes which refusal is answered. Assumes nothing.
use Rattle.std.specs.Prelude.{◌≡◌, refl, eqb, if◌then◌else◌}
use Rattle.std.proofs.Common.{sym, ap, ◌∙◌}
use Rattle.expr.specs.declared.refusal.Reason.{Reason}
use Rattle.expr.specs.declared.refusal.Refusal.{Refusal}
use Rattle.expr.specs.declared.refusal.Refusal.TheVariants.{WidthOutOfRange, WordCount, UnknownKind, OperandOutOfRange, TooDeep, WordsEnd, WordsLeftOver, NotUniform, OutputTooSmall, UnsupportedWidth, WidthMismatch, NarrowingExtension, WideningTruncation, NoFrame, NoWord}
use Rattle.expr.specs.Refusals.{reason_of}

-- the refusal of a reason
abbrev refusal_of : Reason → Refusal
refusal_of r =
    if eqb r.number 1 then WidthOutOfRange else
    if eqb r.number 2 then WordCount else
    if eqb r.number 3 then UnknownKind else
    if eqb r.number 4 then OperandOutOfRange else
    if eqb r.number 5 then TooDeep else
    if eqb r.number 6 then WordsEnd else
    if eqb r.number 7 then WordsLeftOver else
    if eqb r.number 8 then NotUniform else
    if eqb r.number 9 then OutputTooSmall else
    if eqb r.number 10 then UnsupportedWidth r.first else
    if eqb r.number 11 then WidthMismatch r.first r.second else
    if eqb r.number 12 then NarrowingExtension r.first r.second else
    if eqb r.number 13 then WideningTruncation r.first r.second else
    if eqb r.number 14 then NoFrame else
    NoWord

reason_back : (r : Refusal) → refusal_of (reason_of r) ≡ r
reason_back WidthOutOfRange = refl
reason_back WordCount = refl
reason_back UnknownKind = refl
reason_back OperandOutOfRange = refl
reason_back TooDeep = refl
reason_back WordsEnd = refl
reason_back WordsLeftOver = refl
reason_back NotUniform = refl
reason_back OutputTooSmall = refl
reason_back (UnsupportedWidth width) = refl
reason_back (WidthMismatch left right) = refl
reason_back (NarrowingExtension target child) = refl
reason_back (WideningTruncation target child) = refl
reason_back NoFrame = refl
reason_back NoWord = refl

pub reason_injective : (r s : Refusal) → reason_of r ≡ reason_of s → r ≡ s
reason_injective r s e = sym (reason_back r) ∙ ap refusal_of e ∙ reason_back s
