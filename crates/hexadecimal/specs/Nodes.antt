-- The words of nodes as digits: two of kind and sixteen of operand for each node. Definitions only.
use Rattle.std.specs.Prelude.{List, [], ◌∷◌, ◌++◌, ℕ, zero, suc, take, drop, get_or}
use Rattle.hexadecimal.specs.Hex.{digits, number_of}

-- the digits of the first n nodes of a list of words
unfoldable pub nodes_text : ℕ → List ℕ → List ℕ
nodes_text zero ws = []
nodes_text (suc n) ws = digits 2 (get_or ws 0 0) ++ (digits 16 (get_or ws 1 0) ++ nodes_text n (drop 2 ws))

-- the words of n nodes, from their digits
unfoldable pub words_of : ℕ → List ℕ → List ℕ
words_of zero bs = []
words_of (suc n) bs = number_of (take 2 bs) ∷ number_of (take 16 (drop 2 bs)) ∷ words_of n (drop 18 bs)
