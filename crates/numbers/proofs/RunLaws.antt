-- A run of digits is what a prefix of the text is. Assumes nothing.
use Rattle.std.proofs.Common.{◌≡◌, refl, Bool, true, false, cond, List, [], ◌∷◌, ℕ, zero, suc, ◌+◌, ◌-◌, ◌≤◌, min, take, drop, length, length-drop, sym, arith}
use Rattle.std.proofs.lemmas.List.{length-take, take_min, take_rest}
use Rattle.std.proofs.lemmas.List.Sums.{prefix_len-le-length}
use Rattle.std.specs.List.{prefix_len}
use Rattle.classes.specs.Choice.{pick}
use Rattle.numbers.specs.Numbers.{max_of, is_digit_of, num_of, run_by, run_of}
use Rattle.numbers.specs.declared.Numbering.{Numbering}

pub run-prefix : (k : Numbering) (m : ℕ) (bs : List ℕ) → run_by (num_of k) m bs ≡ prefix_len (is_digit_of k) (take m bs)
unfolding run_by
run-prefix k zero bs = refl
run-prefix k (suc m) [] = refl
run-prefix k (suc m) (b ∷ bs) = by-test (is_digit_of k b) (run-prefix k m bs)
  where
    by-test : (x : Bool) → run_by (num_of k) m bs ≡ prefix_len (is_digit_of k) (take m bs) → pick x (suc (run_by (num_of k) m bs)) 0 ≡ cond x (1 + prefix_len (is_digit_of k) (take m bs)) 0
    by-test true e = omega arith
    by-test false e = refl

-- of the bytes from `from` on, as many as the longest number has
module _ (k : Numbering) (t : List ℕ) (from m : ℕ) (is : m ≡ min (max_of k) (length (take (length t - from) (drop from t)))) where
  pub run-value : prefix_len (is_digit_of k) (take m (take (length t - from) (drop from t))) ≡ run_of k (drop from t)
  run-value = rw (is, take_rest t from, take_min (max_of k) (drop from t)) (sym (run-prefix k (max_of k) (drop from t)))

  pub run-within : prefix_len (is_digit_of k) (take m (take (length t - from) (drop from t))) ≤ min (max_of k) (length t - from)
  run-within =
      let rest = take (length t - from) (drop from t) in
      omega (arith, prefix_len-le-length (is_digit_of k) (take m rest), length-take m rest, length-take (length t - from) (drop from t), length-drop from t)
