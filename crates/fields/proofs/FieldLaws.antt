-- Ranges and widths: what the last test of each knows. Assumes nothing.
use Rattle.std.proofs.Common.{◌≡◌, ℕ, ◌≤◌, ◌<◌, List, map, Bool, true, false, ◌&&◌, leb, eqb, refl, sym, ap, ◌∙◌, arith}
use Rattle.std.specs.List.{list_all}
use Rattle.std.proofs.lemmas.List.Folds.{list_all-map}
use borrow.Author.Tests.{le-leb, lt-leb, leb-true}
use Rattle.classes.specs.Choice.{pick, both}
use Rattle.classes.proofs.ChoiceLaws.{true-left, true-right}
use Rattle.events.specs.declared.Event.{Event}
use Rattle.fields.specs.Fields.{field_of, pairs_of, in_range, in_order, is_ranged}
use Rattle.fields.specs.Numbers.{field_num, pair_num}
use Rattle.fields.specs.declared.Field.{Field}

-- the test of all body words at once
pub ranged-is : (most : ℕ) (x : Event) (ws : List (Field × ℕ)) → map pair_num ws ≡ pairs_of x
    → both (leb x.start x.end) (both (in_range most 1 x.end) (both (list_all (λ (p : Field × ℕ). in_range most (field_num p.0) p.1) ws) (in_order x))) ≡ is_ranged most x
unfolding is_ranged
ranged-is most x ws e =
    let f : ℕ → ℕ = field_of x.role x.node in
    let t : ℕ × ℕ → Bool = λ (p : ℕ × ℕ). in_range most p.0 p.1 in
    let m : list_all (λ (p : Field × ℕ). in_range most (field_num p.0) p.1) ws ≡ list_all t (pairs_of x) = sym (list_all-map t pair_num ws) ∙ ap (list_all t) e in
    rw m (ap (λ (b : Bool). both (leb x.start x.end) (both (in_range most 1 x.end) b)) (four (in_range most (f 0) x.a) (in_range most (f 1) x.b) (in_range most (f 2) x.c) (in_range most (f 3) x.d) (in_order x)))
  where
    four : (a b c d e : Bool) → both (a && (b && (c && (d && true)))) e ≡ both a (both b (both c (both d e)))
    four true true true true e = refl
    four true true true false e = refl
    four true true false d e = refl
    four true false c d e = refl
    four false b c d e = refl

-- the tests one after another
module _ (most : ℕ) (x : Event) where
  pub ranged-span : x.end < x.start → false ≡ is_ranged most x
  unfolding is_ranged
  ranged-span h = rw (lt-leb x.start x.end h)

  module _ (h : x.start ≤ x.end) where
    pub ranged-end : in_range most 1 x.end ≡ false → false ≡ is_ranged most x
    unfolding is_ranged
    ranged-end e = rw (le-leb x.start x.end h, e)

    module _ (e : in_range most 1 x.end ≡ true) (ws : List (Field × ℕ)) (m : map pair_num ws ≡ pairs_of x) (b : Bool) (t : b ≡ list_all (λ (p : Field × ℕ). in_range most (field_num p.0) p.1) ws) where
      pub ranged-body : both b (in_order x) ≡ is_ranged most x
      ranged-body = rw t (rw (le-leb x.start x.end h, e) at (ranged-is most x ws m))

-- ---- a larger offset more
-- of two tests, the second only where the first fails
wider : (s t a m n r : Bool) → (m ≡ true → n ≡ true) → pick s a (pick t m r) ≡ true → pick s a (pick t n r) ≡ true
wider true t a m n r f e = e
wider false true a m n r f e = f e
wider false false a m n r f e = e

range-wider : (most more f x : ℕ) → most ≤ more → in_range most f x ≡ true → in_range more f x ≡ true
unfolding in_range
range-wider most more f x h = wider (eqb f 0) (eqb f 1) _ (leb x most) (leb x more) _ (λ e. le-leb x more (omega (arith, h, leb-true x most e)))

both-wider : (a b c d : Bool) → (a ≡ true → c ≡ true) → (b ≡ true → d ≡ true) → both a b ≡ true → both c d ≡ true
both-wider a b c d f g e = rw (f (true-left a b e)) (g (true-right a b e))

-- what is in its range stays there
pub ranged-wider : (most more : ℕ) (x : Event) → most ≤ more → is_ranged most x ≡ true → is_ranged more x ≡ true
unfolding is_ranged
ranged-wider most more x h =
    let r : (f v : ℕ) → in_range most f v ≡ true → in_range more f v ≡ true = λ f v. range-wider most more f v h in
    let f : ℕ → ℕ = field_of x.role x.node in
    let b = leb x.start x.end in
    both-wider b _ b _ (λ e. e) (both-wider _ _ _ _ (r 1 x.end)
    (both-wider _ _ _ _ (r (f 0) x.a) (both-wider _ _ _ _ (r (f 1) x.b) (both-wider _ _ _ _ (r (f 2) x.c)
    (both-wider _ (in_order x) _ (in_order x) (r (f 3) x.d) (λ e. e))))))
