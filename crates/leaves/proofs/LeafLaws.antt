-- A leaf: its node, its section, its events, one law a return. Assumes nothing.
use Prim.Native.Nat.{ℕ}
use mathlib.Core.Path.{◌≡◌, sym, ◌∙◌}
use mathlib.Core.Bool.{Bool, true, false}
use mathlib.Core.List.{List}
use lib.Dec.{eqb}
use borrow.Author.Tests.{eq-eqb, ne_eqb}
use Rattle.classes.specs.Choice.{pick, both}
use Rattle.lines.specs.Lines.{Span}
use Rattle.measure.specs.Continue.{kind_num, level_of}
use Rattle.events.specs.State.{State, go}
use Rattle.events.specs.Events.{enter_of, exit_of}
use Rattle.events.specs.declared.Node.{Node}
use Rattle.events.proofs.GoLaws.{go_on, go-stop}
use Rattle.walk.specs.Leaf.{node, pair_node, leaf_node, section_of, inlines_of, leaf_of}
use Rattle.walk.specs.declared.Met.{Met}

-- ---- its node
module _ (m : Met) (line : ℕ) (top : Bool) (n : ℕ) (p : n ≡ kind_num m.kind) (x : Node) where
  pub node-heading : n ≡ 5 → (level f : ℕ) → level ≡ level_of m.kind → f ≡ pick top 1 0 → x ≡ node 16 m.start m.end level f m.start 0 → x ≡ leaf_node m line top
  unfolding leaf_node
  node-heading h level f q r z = rw (eq-eqb (kind_num m.kind) 5 (sym p ∙ h), ← q, ← r) z

  module _ (nh : n ≡ 5 → ⊥) where
    not-heading : eqb (kind_num m.kind) 5 ≡ false
    not-heading = ne_eqb (kind_num m.kind) 5 (λ z. nh (p ∙ z))

    pub node-definition : n ≡ 7 → x ≡ pair_node m line 20 → x ≡ leaf_node m line top
    unfolding leaf_node
    node-definition h z = rw (not-heading, eq-eqb (kind_num m.kind) 7 (sym p ∙ h)) z

    module _ (nd : n ≡ 7 → ⊥) where
      not-definition : eqb (kind_num m.kind) 7 ≡ false
      not-definition = ne_eqb (kind_num m.kind) 7 (λ z. nd (p ∙ z))

      pub node-code : n ≡ 6 → x ≡ pair_node m line 21 → x ≡ leaf_node m line top
      unfolding leaf_node
      node-code h z = rw (not-heading, not-definition, eq-eqb (kind_num m.kind) 6 (sym p ∙ h)) z

      pub node-plain : (n ≡ 6 → ⊥) → x ≡ node 15 m.start m.end 0 0 0 0 → x ≡ leaf_node m line top
      unfolding leaf_node
      node-plain h z = rw (not-heading, not-definition, ne_eqb (kind_num m.kind) 6 (λ w. h (p ∙ w))) z

-- ---- its section
module _ (m : Met) (top : Bool) (s : State) where
  abbrev pub headed : State
  headed = pick (both top (eqb (kind_num m.kind) 5)) (section_of (level_of m.kind) m.start s) s

  pub heading-inner : top ≡ false → s ≡ headed
  heading-inner t = rw t

  pub heading-other : top ≡ true → (n : ℕ) → n ≡ kind_num m.kind → (n ≡ 5 → ⊥) → s ≡ headed
  heading-other t n p h = rw (t, ne_eqb (kind_num m.kind) 5 (λ z. h (p ∙ z)))

  pub heading-top : top ≡ true → (n : ℕ) → n ≡ kind_num m.kind → n ≡ 5 → (level : ℕ) → level ≡ level_of m.kind → section_of level m.start s ≡ headed
  heading-top t n p h level q = rw (t, eq-eqb (kind_num m.kind) 5 (sym p ∙ h), q)

-- ---- its events
module _ (text : List ℕ) (m : Met) (line : ℕ) (top : Bool) (ls : List Span) (s a : State) (p : a ≡ headed m top s) where
  first : leaf_of text m line top ls s ≡ go a (λ (x : State). go (enter_of (leaf_node m line top) x) (λ (b : State). go (inlines_of text m.kind true ls b) (exit_of m.from m.to)))
  unfolding leaf_of
  first = rw (← p)

  pub leaf-1 : (a.number ≡ 0 → ⊥) → a ≡ leaf_of text m line top ls s
  leaf-1 z = sym (first ∙ go-stop a _ z)

  module _ (za : a.number ≡ 0) (x : Node) (n : x ≡ leaf_node m line top) (b : State) (q : b ≡ enter_of x a) where
    second : leaf_of text m line top ls s ≡ go b (λ (y : State). go (inlines_of text m.kind true ls y) (exit_of m.from m.to))
    second = first ∙ go_on a _ za ∙ rw (← n, ← q)

    pub leaf-2 : (b.number ≡ 0 → ⊥) → b ≡ leaf_of text m line top ls s
    leaf-2 z = sym (second ∙ go-stop b _ z)

    module _ (zb : b.number ≡ 0) (c : State) (r : c ≡ inlines_of text m.kind true ls b) where
      third : leaf_of text m line top ls s ≡ go c (exit_of m.from m.to)
      third = second ∙ go_on b _ zb ∙ rw (← r)

      pub leaf-3 : (c.number ≡ 0 → ⊥) → c ≡ leaf_of text m line top ls s
      leaf-3 z = sym (third ∙ go-stop c _ z)

      pub leaf-4 : c.number ≡ 0 → exit_of m.from m.to c ≡ leaf_of text m line top ls s
      leaf-4 z = sym (third ∙ go_on c _ z)
