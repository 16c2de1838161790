-- What the pieces add is the text of the definition, or there is no room for it. Assumes nothing.
use Prim.Native.Nat.{ℕ, ◌+◌, ◌≤◌, ◌<◌}
use mathlib.Core.Path.{◌≡◌, refl, sym, ap, ◌∙◌}
use mathlib.Core.Bool.{Bool, true, false}
use mathlib.Core.List.{List, [], ◌∷◌, ◌++◌, append-nil, append_assoc}
use native.Mathlib.Omega.{arith}
use native.Mathlib.Nat.{zero-add}
use lib.Dec.{eqb, leb}
use lib.ListN.{length, drop, length-append}
use lib.Seq.{sets, sets-eq}
use borrow.Author.Tests.{eqb-true, leb-true, leb-false, le-leb}
use Rattle.std.specs.Prelude.{Result, Ok, Err}
use Rattle.refusals.specs.Numbers.{number_of}
use Rattle.refusals.specs.declared.Refused.{Refused}
use Rattle.refusals.specs.declared.Refusal.TheVariants.{BytesFull}
use Rattle.classes.specs.Choice.{pick}
use Rattle.sets.specs.Opened.{Answer}
use Rattle.sets.specs.Layout.{Spanned}
use Rattle.joins.specs.Joins.{bytes_of, extend_by, joined_from, over_at, Filled, filled_by}
use Rattle.joins.specs.View.{added, length_by, added_by}

-- ---- a text grows at its end
extend-added : (glue acc s : List ℕ) → extend_by glue acc s ≡ acc ++ added glue (length acc) s
unfolding extend_by added
extend-added glue acc s = by_tests (eqb (length s) 0) (eqb (length acc) 0) refl
  where
    none : (l : List ℕ) → length l ≡ 0 → l ≡ []
    none [] e = refl
    none (x ∷ l) e = absurd (omega (arith, e))

    by_tests : (t u : Bool) → eqb (length acc) 0 ≡ u → pick t acc (pick u s (acc ++ glue ++ s)) ≡ acc ++ pick t [] (pick u s (glue ++ s))
    by_tests true u e = sym (append-nil acc)
    by_tests false true e = ap (λ (l : List ℕ). l ++ s) (sym (none acc (eqb-true (length acc) 0 e)))
    by_tests false false e = append_assoc acc glue s

module _ (bytes glue : List ℕ) where
  extend-grows : (acc s : List ℕ) → length acc ≤ length (extend_by glue acc s)
  extend-grows acc s = rw (extend-added glue acc s) (omega (arith, length-append acc (added glue (length acc) s)))

  joined-grows : (acc : List ℕ) (ps : List Spanned) → length acc ≤ length (joined_from bytes glue acc ps)
  unfolding joined_from
  joined-grows acc [] = omega arith
  joined-grows acc (p ∷ ps) = omega (arith, extend-grows acc (bytes_of bytes p), joined-grows (extend_by glue acc (bytes_of bytes p)) ps)

  -- ---- what is added behind a text
  joined-added : (acc : List ℕ) (ps : List Spanned) → joined_from bytes glue acc ps ≡ acc ++ added_by bytes glue (length acc) ps
  unfolding joined_from added_by
  joined-added acc [] = sym (append-nil acc)
  joined-added acc (p ∷ ps) =
      let s = added glue (length acc) (bytes_of bytes p) in
      rw (extend-added glue acc (bytes_of bytes p)) (joined-added (acc ++ s) ps ∙ rw (length-append acc s, append_assoc acc s (added_by bytes glue (length acc + length s) ps)))

  module _ (room : ℕ) where
    joined-fits : (acc : List ℕ) (ps : List Spanned) → leb (length (joined_from bytes glue acc ps)) room ≡ true → length_by bytes glue room (length acc) ps ≡ Ok (length (joined_from bytes glue acc ps))
    unfolding joined_from length_by
    joined-fits acc [] e = refl
    joined-fits acc (p ∷ ps) e =
        let t = extend_by glue acc (bytes_of bytes p) in
        let k : length t ≡ length acc + length (added glue (length acc) (bytes_of bytes p)) = ap (λ (x : List ℕ). length x) (extend-added glue acc (bytes_of bytes p)) ∙ length-append acc _ in
        let g : leb (length t) room ≡ true = le-leb (length t) room (omega (arith, leb-true _ _ e, joined-grows t ps)) in
        rw (← k, g) (joined-fits t ps e)

    joined-over : (acc : List ℕ) (ps : List Spanned) → length acc ≤ room → leb (length (joined_from bytes glue acc ps)) room ≡ false
        → length_by bytes glue room (length acc) ps ≡ Err (record { why = BytesFull; at = over_at bytes glue room acc ps })
    unfolding joined_from length_by over_at
    joined-over acc [] h e = absurd (omega (arith, h, leb-false _ _ e))
    joined-over acc (p ∷ ps) h e =
        let t = extend_by glue acc (bytes_of bytes p) in
        let k : length t ≡ length acc + length (added glue (length acc) (bytes_of bytes p)) = ap (λ (x : List ℕ). length x) (extend-added glue acc (bytes_of bytes p)) ∙ length-append acc _ in
        rw (← k) (by-test (leb (length t) room) refl (joined-over t ps))
      where
        by-test : (b : Bool) → let t = extend_by glue acc (bytes_of bytes p) in leb (length t) room ≡ b
            → (length t ≤ room → leb (length (joined_from bytes glue t ps)) room ≡ false → length_by bytes glue room (length t) ps ≡ Err (record { why = BytesFull; at = over_at bytes glue room t ps }))
            → ◌≡◌ {A = Result ℕ Refused} (pick b (length_by bytes glue room (length t) ps) (Err (record { why = BytesFull; at = p.start }))) (Err (record { why = BytesFull; at = pick b (over_at bytes glue room t ps) p.start }))
        by-test true w more = more (leb-true _ _ w) e
        by-test false w more = refl

-- ---- a text measured, then written, if it has room
module _ (bytes glue out : List ℕ) (ps : List Spanned) where
  abbrev whole : List ℕ
  whole = joined_from bytes glue [] ps

  abbrev filled-as : Bool → Filled
  filled-as b =
      pick b (record { answer = record { number = 0; position = length bytes; count = length whole }; out = whole ++ drop (length whole) out })
      (record { answer = record { number = 8; position = over_at bytes glue (length out) [] ps; count = 0 }; out = out })

  abbrev Fills : Answer → List ℕ → Type 0
  Fills r l = (r ≡ (filled_by bytes out glue ps).answer) × (l ≡ (filled_by bytes out glue ps).out)

  err-ok : {P : Type 0} (x : Refused) (k : ℕ) → ◌≡◌ {A = Result ℕ Refused} (Err x) (Ok k) → P
  err-ok x k p = cc

  pub fill-refused : (w : Refused) → Err w ≡ length_by bytes glue (length out) 0 ps → Fills (record { number = number_of w.why; position = w.at; count = 0 }) out
  unfolding filled_by
  fill-refused w e = by-test (leb (length whole) (length out)) refl
    where
      same : (x y : Refused) → ◌≡◌ {A = Result ℕ Refused} (Err x) (Err y) → x ≡ y
      same x y p = cc

      by-test : (b : Bool) → leb (length whole) (length out) ≡ b
          → (◌≡◌ {A = Answer} (record { number = number_of w.why; position = w.at; count = 0 }) (filled-as b).answer)
          × (out ≡ (filled-as b).out)
      by-test true f = err-ok w (length whole) (e ∙ joined-fits bytes glue (length out) [] ps f)
      by-test false f = let q = same w _ (e ∙ joined-over bytes glue (length out) [] ps (omega arith) f) in rw q (refl, refl)

  pub fill-written : (n : ℕ) → Ok n ≡ length_by bytes glue (length out) 0 ps → (out' : List ℕ) → out' ≡ sets out 0 (added_by bytes glue 0 ps)
      → Fills (record { number = 0; position = length bytes; count = n }) out'
  unfolding filled_by
  fill-written n e out' q = by-test (leb (length whole) (length out)) refl
    where
      same : (x y : ℕ) → ◌≡◌ {A = Result ℕ Refused} (Ok x) (Ok y) → x ≡ y
      same x y p = cc

      by-test : (b : Bool) → leb (length whole) (length out) ≡ b
          → (◌≡◌ {A = Answer} (record { number = 0; position = length bytes; count = n }) (filled-as b).answer)
          × (out' ≡ (filled-as b).out)
      by-test true f =
          let k = same n (length whole) (e ∙ joined-fits bytes glue (length out) [] ps f) in
          let h : 0 + length whole ≤ length out = omega (arith, leb-true (length whole) (length out) f) in
          rw k (refl, q ∙ ap (sets out 0) (sym (joined-added bytes glue [] ps)) ∙ sets-eq whole out 0 h ∙ rw (zero-add (length whole)))
      by-test false f = err-ok _ n (sym (e ∙ joined-over bytes glue (length out) [] ps (omega arith) f))
