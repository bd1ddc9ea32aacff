-- What `try_match_all` comes to, and what it writes. Definitions only.
use Rattle.std.specs.Prelude.{List, [], ℕ, length}
use Rattle.std.proofs.Math.Option.{Option, none, some}
use Rattle.expr.specs.Outcome.{Outcome, mapped, ◌and_then◌}
use Rattle.expr.specs.Expr.{encode, nodes}
use Rattle.width.specs.Checked.{checked}
use Rattle.expr.specs.Room.{with_words}
use Rattle.rewriting.specs.AtomIdentityRewrite.{Candidate, candidates}
use Rattle.rewriting.specs.CandidateClaims.{numbered}

-- what is answered to a number: a candidate, or 'no more' and how many there are
pub data Asked (A : Type 0) : Type 0 where
  candidate : A → Asked A
  no_more : ℕ → Asked A

-- what is there, else 'no more' and the count
abbrev pub or_count : {A : Type 0} → ℕ → Option A → Asked A
or_count n none = no_more n
or_count n (some a) = candidate a

-- the candidate of that number, of a list whose first has number 0
unfoldable pub asked_for : ℕ → List Candidate → Asked Candidate
asked_for number cs = or_count (length cs) (numbered number cs)

-- `try_match_all`: 1, then 2 to 7, then 9 for an output of so many words below the tree's, then the candidate or 'no more'. What is claimed of
-- the candidate is proved by `claim_at` of crates/rewriting/proofs/CandidateLaws.antt: the value for tags 1, 4 and 5, the value or its negation
-- for tags 2 and 3, no value for tags 6 and 7, and for every tag the nodes, the depth, the refusals and the variables
unfoldable pub candidate_at : List ℕ → ℕ → ℕ → ℕ → Outcome (Asked Candidate)
candidate_at ws w number room = mapped (λ t. asked_for number (candidates w t)) (checked w ws and_then with_words room)

-- the numbers that are handed back: tag and nodes, or the count
abbrev pub told : Asked Candidate → Asked (ℕ × ℕ)
told (candidate c) = candidate (c.tag, nodes c.tree)
told (no_more n) = no_more n

-- the words that are written: the candidate's, and none for 'no more'
abbrev pub candidate_words : Asked Candidate → List ℕ
candidate_words (candidate c) = encode c.tree
candidate_words (no_more n) = []
