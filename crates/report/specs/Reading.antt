-- What the program promises of the state while it reads. Definitions only.
use Rattle.std.specs.Prelude.{◌≡◌, List, ◌++◌, ℕ, ◌≤◌, take}
use Rattle.report_lines.specs.Steps.{fed, rest_of}
use Rattle.report_lines.specs.declared.State.{State}

-- a step with room for another line in the output reads `used` bytes from the front of a chunk
pub record ReadsFront (s : State) (line chunk : List ℕ) (used : ℕ) (s' : State) (line' : List ℕ) : Type 0 where
  pub room : ℕ
  pub enough : 9400 ≤ room
  pub text : List ℕ
  pub step : fed s.totals (take s.have line) room chunk ≡ record { used = used; text = text; totals = s'.totals; kept = take s'.have line' }

-- a chunk is read to its end: what was left is what is printed for it and what is left then, whatever bytes follow
pub record ReadsChunk (s : State) (line chunk : List ℕ) (s' : State) (line' : List ℕ) : Type 0 where
  pub text : List ℕ
  pub rest : (more : List ℕ) → rest_of s.totals (take s.have line) (chunk ++ more) ≡ text ++ rest_of s'.totals (take s'.have line') more

-- the same for some bytes: no contract can say which bytes a read gives
pub record ReadsSome (s : State) (line : List ℕ) (s' : State) (line' : List ℕ) : Type 0 where
  pub bytes : List ℕ
  pub chunk : ReadsChunk s line bytes s' line'
