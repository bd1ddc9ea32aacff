-- The length of the first subtree in words. Definitions only.
use Rattle.std.specs.Prelude.{List, [], ◌∷◌, ℕ, zero, suc, ◌+◌, length, if◌then◌else◌}
use Rattle.expr.specs.Refusals.{refusal}
use Rattle.expr.specs.Outcome.{Outcome, refused, accepted, mapped, ◌and_then◌}
use Rattle.expr.specs.Parse.{arity_of, word_count_ok}

-- how many words the next `due` subtrees take: a node takes two, and then as many more subtrees are due as it has children;
-- 6 where the words end before that, 3 for a kind above 13
unfoldable pub due_words : List ℕ → ℕ → Outcome ℕ
due_words [] zero = accepted 0
due_words [] (suc due) = refused (refusal 6)
due_words (k ∷ []) zero = accepted 0
due_words (k ∷ []) (suc due) = refused (refusal 6)
due_words (k ∷ o ∷ ws) zero = accepted 0
due_words (k ∷ o ∷ ws) (suc due) = arity_of k and_then (λ n. mapped (λ m. 2 + m) (due_words ws (n + due)))

-- the words of the first subtree; operands, depth and what stands after the subtree are not looked at
unfoldable pub span_of : List ℕ → Outcome ℕ
span_of ws = if word_count_ok (length ws) then due_words ws 1 else refused (refusal 2)
