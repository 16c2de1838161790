-- A level of the tree after a step: whether a list is open there, and the same level with other events. Assumes nothing.
use mathlib.Core.Path.{◌≡◌, sym, ap, subst, ◌∙◌}
use mathlib.Core.Logic.{inl, inr}
use mathlib.Core.Bool.{Bool, true, false}
use mathlib.Core.List.{List, [], ◌∷◌}
use Prim.Native.Nat.{ℕ, suc, ◌-◌}
use native.Mathlib.Omega.{arith}
use lib.ListN.{length}
use Rattle.events.specs.State.{State}
use Rattle.events.specs.declared.Event.{Event}
use Rattle.lists.specs.Lists.{last_list_of}
use Rattle.lists.specs.declared.OpenList.{OpenList}
use Rattle.walk.specs.Tree.{list_here, open_here}
use Rattle.theorems.proofs.Level.{Around}
use Rattle.theorems.proofs.LevelLists.{not-here, last-depth, depth-here}
use Rattle.theorems.proofs.Nests.{Frame, Holds}
use Rattle.theorems.proofs.HoldLaws.{holds-count}
use Rattle.theorems.proofs.Trees.{Tree, Alike, lists_words, Led, Attributed}
use Rattle.theorems.proofs.TreeSteps.{tree-beside, Besides}
use Rattle.theorems.proofs.ListTree.{alike_refl, alike-on, alike-count, attributed-alike, typed-alike-one, typed-alike}
use Rattle.theorems.proofs.TreeLevel.{Outside, Stands, Bare, Listing, Grows}

-- ---- the innermost list
lists-around : (os : List OpenList) (n : ℕ) (s : State) → Outside os n → s.lst ≡ lists_words os → Around s.lst n
unfolding lists_words last_list_of
lists-around [] n s a e = λ z. absurd (z (ap (λ (l : List ℕ). length l) e))
lists-around (o ∷ os) n s a e = λ z. omega (arith, a, last-depth s (lists_words os) o e)

-- it is further out
pub none_here : (fs : List Frame) (g : List Event) (os : List OpenList) (s : State) → Holds fs g s → Outside os (length fs) → s.lst ≡ lists_words os → (list_here s ≡ false) × (open_here s ≡ false)
none_here fs g os s h a e = not-here s (lists-around os (length s.opn) s (subst (λ (n : ℕ). Outside os n) (sym (holds-count fs g s h)) a) e)

-- its Enter is the innermost that is open
pub one-here : (fs : List Frame) (g : List Event) (o : OpenList) (os : List OpenList) (s : State) → Holds fs g s → o.depth ≡ length fs → s.lst ≡ lists_words (o ∷ os)
    → (list_here s ≡ true) × (open_here s ≡ true)
unfolding lists_words
one-here fs g o os s h d e = depth-here s (lists_words os) o e (d ∙ sym (holds-count fs g s h))

-- ---- the same level but for its events and the bodies of what is open
pub stands_on : (top : Bool) (own fs es : List Frame) (left : ℕ) (s r : State) → Alike fs es → r.sec ≡ s.sec → Stands top own fs left s → Stands top own es left r
stands_on top own fs es left s r a e p =
    let n = alike-count fs es a in
    record {
      alike = λ t. alike-on own fs es (p.alike t) a;
      secs = λ t. let q = p.secs t in (n ∙ q.0 ∙ ap (λ (l : List ℕ). suc (length l)) (sym e), omega (arith, q.1, ap (λ (l : List ℕ). length l) e));
      some = omega (arith, p.some, n);
      room = omega (arith, p.room, n);
    }

pub outside-on : (os : List OpenList) (fs es : List Frame) → Alike fs es → Outside os (length fs) → Outside os (length es)
outside-on os fs es a = subst (λ (n : ℕ). Outside os n) (sym (alike-count fs es a))

module _ (text : List ℕ) (top : Bool) (own : List Frame) (os : List OpenList) (left : ℕ) (s r : State) where
  unfoldable pub bare-on : (b : Bare text top own os left s) (es : List Frame) (g : List Event) → Alike b.frames es → Tree text es g r → r.lst ≡ s.lst → r.sec ≡ s.sec → Led (100 - length es) g
      → (top ≡ true → Attributed es g r) → Bare text top own os left r
  bare-on b es g a t e k h z = record {
    frames = es;
    behind = g;
    tree = t;
    stands = stands_on top own b.frames es left s r a k b.stands;
    typed = typed-alike b.frames es os a b.typed;
    outside = outside-on os b.frames es a b.outside;
    lst = e ∙ b.lst;
    led = h;
    attrs = z;
  }

  unfoldable pub listing-on : (b : Listing text top own os left s) (es : List Frame) (g : List Event) → Alike (b.frame ∷ b.frames) es → Tree text es g r → r.lst ≡ s.lst → r.sec ≡ s.sec
      → (top ≡ true → r.attr ≡ 0) → Listing text top own os left r
  listing-on b [] g a t e k z = absurd a
  listing-on b (f ∷ es) g a t e k z =
      let n = alike-count b.frames es a.2 in
      record {
        frame = f;
        frames = es;
        behind = g;
        list = b.list;
        tree = t;
        stands = stands_on top own b.frames es left s r a.2 k b.stands;
        typed = typed-alike b.frames es os a.2 b.typed;
        outside = outside-on os b.frames es a.2 b.outside;
        this = typed-alike-one (b.frame ∷ b.frames) (f ∷ es) b.list a b.this;
        depth = b.depth ∙ ap (λ (m : ℕ). suc m) (sym n);
        lst = e ∙ b.lst;
        led = subst (λ (m : ℕ). Led (100 - m) f.before) (sym n) (subst (λ (l : List Event). Led (100 - length b.frames) l) (sym a.0) b.led);
        attr = z;
      }

  -- the same events
  unfoldable pub bare-as : (es : List Frame) (b : Bare text top own os left s) → Tree text es b.behind r → Alike b.frames es → Besides s r → Bare text top own os left r
  bare-as es b t a e =
      bare-on b es b.behind a t e.0 e.1 (subst (λ (k : ℕ). Led (100 - k) b.behind) (sym (alike-count b.frames es a)) b.led)
      (λ p. attributed-alike b.frames es b.behind s r a e.2 (b.attrs p))

  pub listing-as : (es : List Frame) (b : Listing text top own os left s) → Tree text es b.behind r → Alike (b.frame ∷ b.frames) es → Besides s r → Listing text top own os left r
  listing-as es b t a e = listing-on b es b.behind a t e.0 e.1 (λ p. e.2 ∙ b.attr p)

  -- what is open too
  pub bare-beside : r.evs ≡ s.evs → r.opn ≡ s.opn → Besides s r → Bare text top own os left s → Bare text top own os left r
  bare-beside p q e b = bare-as b.frames b (tree-beside text b.frames b.behind s r p q b.tree) (alike_refl b.frames) e

  pub grows-beside : r.evs ≡ s.evs → r.opn ≡ s.opn → Besides s r → Grows text top own os left s → Grows text top own os left r
  grows-beside p q e (inl b) = inl (bare-beside p q e b)
  grows-beside p q e (inr b) = let fs = b.frame ∷ b.frames in inr (listing-as fs b (tree-beside text fs b.behind s r p q b.tree) (alike_refl fs) e)
