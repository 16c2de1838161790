-- A marker lies within its line. Assumes nothing.
use mathlib.Core.Path.{◌≡◌, refl, sym, subst}
use mathlib.Core.Bool.{Bool, true, false}
use mathlib.Core.List.{List}
use Prim.Native.Nat.{ℕ, zero, suc, ◌+◌, ◌≤◌, ◌<◌}
use native.Mathlib.Omega.{arith}
use lib.Dec.{eqb, leb}
use lib.ListN.{length, get_or, drop, get_or-eq_default}
use borrow.Author.Tests.{eqb-true, leb-true, leb-false, ltb-true}
use Rattle.classes.proofs.ChoiceLaws.{true-left, true-right}
use Rattle.classes.specs.Choice.{pick, both}
use Rattle.classes.specs.Classes.{is_bullet}
use Rattle.numbers.specs.Numbers.{run_of, begins_of}
use Rattle.numbers.specs.declared.Numbering.{Numbering}
use Rattle.std.specs.Prelude.{Option, Some, None, IfSome}
use Rattle.markers.specs.Markers.{none, ends_at, style_of, styled_of, begun_of, numbered_of, ordered_of, box_mark, task_at, bullet_ends, bullet_of, description_of, marker_of}
use Rattle.markers.specs.declared.Style.{Style}
use Rattle.markers.specs.declared.Marked.{Marked}

-- a byte that is not 0 stands in the list
inside : (t : List ℕ) (i b : ℕ) → get_or t i 0 ≡ b → 0 < b → i < length t
inside t i b e h = by-test (leb (length t) i) refl
  where
    by-test : (x : Bool) → leb (length t) i ≡ x → i < length t
    by-test true p = let z : get_or t i 0 ≡ 0 = get_or-eq_default t 0 (leb-true (length t) i p) in let w : ⊥ = omega arith in absurd w
    by-test false p = leb-false (length t) i p

-- the marker, if there is one, has at most n bytes
abbrev pub Within : ℕ → Option Marked → Type 0
Within n o = IfSome o (λ m. m.len ≤ n)

-- what a choice gives is within n, if both sides are, each where its test says so
pick-within : (n : ℕ) (x : Bool) (a c : Option Marked) → (x ≡ true → Within n a) → (x ≡ false → Within n c) → Within n (pick x a c)
pick-within n true a c h k = h refl
pick-within n false a c h k = k refl

styled-within : (t : List ℕ) (from e : ℕ) (k : Numbering) (y : Option Style) → e < length t → Within (length t) (styled_of t from e k y)
styled-within t from e k None h = tt
styled-within t from e k (Some y) h = pick-within (length t) (ends_at t (e + 1)) _ none (λ p. omega arith) (λ p. tt)

begun-within : (t : List ℕ) (from : ℕ) (paren : Bool) (k : Option Numbering) → Within (length t) (begun_of t from paren k)
unfolding begun_of
begun-within t from paren None = tt
begun-within t from paren (Some k) =
    let e = from + run_of k (drop from t) in
    pick-within (length t) (leb (length t) e) none _ (λ p. tt) (λ p. styled-within t from e k (style_of paren (get_or t e 0)) (leb-false (length t) e p))

numbered_within : (t : List ℕ) (from : ℕ) (paren : Bool) → Within (length t) (numbered_of t from paren)
unfolding numbered_of
numbered_within t from paren = pick-within (length t) (leb (length t) from) none _ (λ p. tt) (λ p. begun-within t from paren (begins_of (get_or t from 0)))

ordered-within : (t : List ℕ) → Within (length t) (ordered_of t)
unfolding ordered_of
ordered-within t = pick-within (length t) (eqb (get_or t 0 0) 40) (numbered_of t 1 true) (numbered_of t 0 false) (λ p. numbered_within t 1 true) (λ p. numbered_within t 0 false)

task-long : (t : List ℕ) → task_at t ≡ true → 5 ≤ length t
unfolding task_at
task-long t p =
    let close = both (eqb (get_or t 4 0) 93) (ends_at t 5) in
    let q = true-right (box_mark (get_or t 3 0)) close (true-right (eqb (get_or t 2 0) 91) (both (box_mark (get_or t 3 0)) close) p) in
    omega (arith, inside t 4 93 (eqb-true (get_or t 4 0) 93 (true-left (eqb (get_or t 4 0) 93) (ends_at t 5) q)) (omega arith))

bullet-byte : (b : ℕ) → is_bullet b ≡ true → 0 < b
unfolding is_bullet
bullet-byte zero p = let w = ltb-true 1 0 p in omega arith
bullet-byte (suc b) p = omega arith

bullet-within : (t : List ℕ) → is_bullet (get_or t 0 0) ≡ true → Within (length t) (bullet_of t)
unfolding bullet_of
bullet-within t p =
    let h = inside t 0 (get_or t 0 0) refl (bullet-byte (get_or t 0 0) p) in
    pick-within (length t) (bullet_ends t) _ none (λ q. pick-within (length t) (task_at t) _ _ (task-long t) (λ r. omega arith)) (λ q. tt)

description-within : (t : List ℕ) → eqb (get_or t 0 0) 58 ≡ true → Within (length t) (description_of t)
unfolding description_of
description-within t p =
    let h = inside t 0 58 (eqb-true (get_or t 0 0) 58 p) (omega arith) in
    pick-within (length t) (ends_at t 1) _ none (λ q. omega arith) (λ q. tt)

-- a marker lies within its line
pub marker-within : (t : List ℕ) → Within (length t) (marker_of t)
unfolding marker_of
marker-within t =
    pick-within (length t) (is_bullet (get_or t 0 0)) (bullet_of t) _ (bullet-within t)
    (λ p. pick-within (length t) (eqb (get_or t 0 0) 58) (description_of t) (ordered_of t) (description-within t) (λ q. ordered-within t))

pub marker-len : (t : List ℕ) (m : Marked) → Some m ≡ marker_of t → m.len ≤ length t
marker-len t m e = subst (Within (length t)) (sym e) (marker-within t)
