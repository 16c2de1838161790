-- The last byte that passes a test, by what a run from the back found. Assumes nothing.
use Rattle.std.proofs.Common.{◌≡◌, ◌∙◌, refl, sym, ap, ℕ, ◌+◌, ◌-◌, ◌<◌, Bool, true, false, List, length, get_or, Option, Some, None, MatchOption, IfSome, IsSomeAnd, option_map, arith}
use Rattle.std.specs.Option.{unwrap_or}
use Rattle.classes.specs.Last.{IsLast}
use denote.Param.Members.{Called, Mut}

module _ {A F : Type 0} {g : Mut F (A × Unit {0}) Bool} {f : F} (v : A → ℕ) (p : ℕ → Bool) (s : List ℕ)
    (says : (x : A) (b : Bool) (q : F) → Called g f (x, tt) b q → b ≡ p (v x)) where
  one : (o : Option A) (b : Bool) (y : ℕ) → IsSomeAnd o (λ x. Called g f (x, tt) b f) → option_map v o ≡ Some y → p y ≡ b
  one None b y c e = absurd c
  one (Some x) b y c e = ap p (sym (ap (λ o. unwrap_or o 0) e)) ∙ sym (says x b f c)

  is_some : (o : Option A) (y : ℕ) (P : A → Type 0) → option_map v o ≡ Some y → IfSome o P → IsSomeAnd o P
  is_some None y P e h = cc e
  is_some (Some x) y P e h = h

  -- the run goes from the last byte to the one that was found
  pub last-by : {K : Type 0} (r : Option ℕ) (whole : Bool) (len : ℕ) (at : ℕ → Option A) → K
      → (whole ≡ true → len ≡ length s) × ((k d : ℕ) → k < length s → length s - 1 - k < len → option_map v (at (length s - 1 - k)) ≡ Some (get_or s k d))
      → MatchOption r ((whole ≡ true) × (K → (k : ℕ) → IfSome (at k) (λ x. Called g f (x, tt) false f)))
      (λ i. (i + len ≡ length s) × (K → IsSomeAnd (at (length s - 1 - i)) (λ x. Called g f (x, tt) true f) × ((k : ℕ) → k < length s - 1 - i → IsSomeAnd (at k) (λ x. Called g f (x, tt) false f))))
      → IfSome r (λ i. i < length s) → IsLast p s r
  last-by None whole len at keeps items found low = λ k h.
      let e = items.1 k 0 h (omega (arith, items.0 found.0)) in
      one (at (length s - 1 - k)) false (get_or s k 0) (is_some (at (length s - 1 - k)) _ _ e (found.1 keeps (length s - 1 - k))) e
  last-by (Some i) whole len at keeps items found low =
      let t = found.1 keeps in (
        low,
        one (at (length s - 1 - i)) true (get_or s i 0) t.0 (items.1 i 0 low (omega (arith, found.0, low))),
        λ k b h. one (at (length s - 1 - k)) false (get_or s k 0) (t.1 (length s - 1 - k) (omega (arith, low))) (items.1 k 0 h (omega (arith, found.0, b))),
      )
