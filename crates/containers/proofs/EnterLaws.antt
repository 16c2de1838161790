-- The Enters of a container: the list, the term, its own, one law a return. Assumes nothing.
use mathlib.Core.Path.{◌≡◌, sym, ap, ◌∙◌}
use mathlib.Core.Bool.{Bool, true, false, not}
use mathlib.Core.List.{List}
use Prim.Native.Nat.{ℕ, ◌+◌, ◌*◌, ◌/◌, ◌%◌, ◌≤◌}
use native.Mathlib.Omega.{arith}
use lib.Dec.{eqb, leb}
use lib.ListN.{length, take, get_or}
use lib.Seq.{length-take-le}
use borrow.Author.Tests.{eq-eqb, ne_eqb}
use Rattle.classes.specs.Choice.{pick}
use Rattle.markers.specs.Markers.{marker_num}
use Rattle.markers.specs.declared.Marker.{Marker}
use Rattle.measure.specs.Continue.{kind_num}
use Rattle.events.specs.State.{State, go}
use Rattle.events.specs.Events.{enter_of, exit_of}
use Rattle.events.specs.View.{view}
use Rattle.events.specs.declared.St.{St}
use Rattle.events.specs.declared.Node.{Node}
use Rattle.events.proofs.GoLaws.{go_on, go-stop}
use Rattle.lists.specs.Lists.{type_detail, type_value, push_list_of, last_list_of}
use Rattle.lists.specs.declared.OpenList.{OpenList}
use Rattle.lists.proofs.ListLaws.{view-lists}
use Rattle.walk.specs.Fields.{marker_in}
use Rattle.walk.specs.Leaf.{node, pair_node}
use Rattle.walk.specs.Tree.{open_here, list_node, new_list, open_list, open_term, item_node, container_node, open_container}
use Rattle.walk.specs.declared.Met.{Met}

-- ---- the list
module _ (st : St) (ev sk ls v : List ℕ) where
  pub here-none : st.lists ≡ 0 → false ≡ open_here (view st ev sk ls v)
  here-none e = rw e

  pub here-some : st.lists * 5 ≤ length ls → (st.lists ≡ 0 → ⊥) → (o : OpenList) → o ≡ last_list_of (view st ev sk ls v) → st.depth ≤ length sk
      → leb st.depth o.depth ≡ open_here (view st ev sk ls v)
  here-some h ne o p d =
      let q = view-lists st ls h ev sk v in
      let n : length (take (st.lists * 5) ls) ≡ 0 → ⊥ = λ z. ne (omega (arith, q, z)) in
      sym (rw (ne_eqb (length (take (st.lists * 5) ls)) 0 n, length-take-le st.depth sk d, ← p))

pub list-node : (ty : Marker) (pos n d w : ℕ) (x : Node) → n ≡ marker_num ty → d ≡ type_detail ty → w ≡ type_value ty
    → x ≡ node (n + 3) pos pos 1 d (w % 4294967296) (w / 4294967296) → x ≡ list_node ty pos
list-node ty pos n d w x p q r e = e ∙ rw (p, q, r)

module _ (ty : Marker) (pos : ℕ) (s : State) (b : Bool) (p : b ≡ open_here s) where
  pub list-goes : b ≡ true → s ≡ open_list ty pos s
  unfolding open_list
  list-goes e = sym (ap (λ (t : Bool). pick t s (go (enter_of (list_node ty pos) s) (new_list ty))) (sym p ∙ e))

  module _ (e : b ≡ false) (x : Node) (q : x ≡ list_node ty pos) (a : State) (r : a ≡ enter_of x s) where
    begins : open_list ty pos s ≡ go a (new_list ty)
    unfolding open_list
    begins =
        ap (λ (t : Bool). pick t s (go (enter_of (list_node ty pos) s) (new_list ty))) (sym p ∙ e)
        ∙ ap (λ (y : State). go y (new_list ty)) (sym (r ∙ ap (λ (y : Node). enter_of y s) q))

    pub list-stop : (a.number ≡ 0 → ⊥) → a ≡ open_list ty pos s
    list-stop z = sym (begins ∙ go-stop a (new_list ty) z)

    pub list_on : a.number ≡ 0 → (d : ℕ) → length a.opn ≡ d → (c : State) → c ≡ push_list_of (record { start = ty; prev = ty; depth = d }) a → c ≡ open_list ty pos s
    list_on z d f c g =
        g ∙ ap (λ (n : ℕ). push_list_of (record { start = ty; prev = ty; depth = n }) a) (sym f)
        ∙ sym (begins ∙ go_on a (new_list ty) z)

-- ---- a step that only some blocks take
module _ (n i j : ℕ) (p : n ≡ i) (s t : State) where
  pub step-taken : n ≡ j → t ≡ pick (eqb i j) t s
  step-taken e = sym (rw (eq-eqb i j (sym p ∙ e)))

  pub step_left : (n ≡ j → ⊥) → s ≡ pick (eqb i j) t s
  step_left e = sym (rw (ne_eqb i j (λ z. e (p ∙ z))))

-- ---- the term
module _ (m : Met) (s : State) (x : Node) (p : x ≡ node 17 m.start m.end 0 0 0 0) (a : State) (q : a ≡ enter_of x s) where
  term-begins : open_term m s ≡ go a (exit_of m.end m.end)
  unfolding open_term
  term-begins = ap (λ (y : State). go y (exit_of m.end m.end)) (sym (q ∙ ap (λ (y : Node). enter_of y s) p))

  pub term-stop : (a.number ≡ 0 → ⊥) → a ≡ open_term m s
  term-stop z = sym (term-begins ∙ go-stop a (exit_of m.end m.end) z)

  pub term-on : a.number ≡ 0 → exit_of m.end m.end a ≡ open_term m s
  term-on z = sym (term-begins ∙ go_on a (exit_of m.end m.end) z)

-- ---- the container's own
module _ (text : List ℕ) (m : Met) (n : ℕ) (x : Node) where
  pub item-task : n ≡ 3 → (c b : ℕ) → b ≡ get_or text (m.start + 3) 0 → c ≡ pick (not (eqb b 32)) 1 0 → x ≡ node 9 m.start m.end c 0 0 0 → x ≡ item_node text m n
  unfolding item_node
  item-task e c b p q r = r ∙ rw (q, p) (sym (rw (eq-eqb n 3 e)))

  module _ (f : n ≡ 3 → ⊥) where
    pub item-detail : n ≡ 4 → x ≡ node 10 m.end m.end 0 0 0 0 → x ≡ item_node text m n
    unfolding item_node
    item-detail e r = r ∙ sym (rw (ne_eqb n 3 f, eq-eqb n 4 e))

    pub item-plain : (n ≡ 4 → ⊥) → x ≡ node 8 m.start m.end 0 0 0 0 → x ≡ item_node text m n
    unfolding item_node
    item-plain e r = r ∙ sym (rw (ne_eqb n 3 f, ne_eqb n 4 e))

module _ (text : List ℕ) (m : Met) (line n : ℕ) (p : n ≡ kind_num m.kind) (x : Node) where
  pub node-fence : n ≡ 6 → x ≡ pair_node m line 3 → x ≡ container_node text m line
  unfolding container_node
  node-fence e r = r ∙ sym (rw (eq-eqb (kind_num m.kind) 6 (sym p ∙ e)))

  module _ (f : n ≡ 6 → ⊥) where
    pub node-footnote : n ≡ 7 → x ≡ pair_node m line 11 → x ≡ container_node text m line
    unfolding container_node
    node-footnote e r = r ∙ sym (rw (ne_eqb (kind_num m.kind) 6 (λ z. f (p ∙ z)), eq-eqb (kind_num m.kind) 7 (sym p ∙ e)))

    module _ (g : n ≡ 7 → ⊥) where
      pub node-quote : n ≡ 8 → x ≡ node 2 m.start m.end 0 0 0 0 → x ≡ container_node text m line
      unfolding container_node
      node-quote e r = r ∙ sym (rw (ne_eqb (kind_num m.kind) 6 (λ z. f (p ∙ z)), ne_eqb (kind_num m.kind) 7 (λ z. g (p ∙ z)), eq-eqb (kind_num m.kind) 8 (sym p ∙ e)))

      pub node-item : (n ≡ 8 → ⊥) → (j : ℕ) → j ≡ marker_num (marker_in m.kind) → x ≡ item_node text m j → x ≡ container_node text m line
      unfolding container_node
      node-item e j q r =
          r ∙ ap (λ (i : ℕ). item_node text m i) q
          ∙ sym (rw (ne_eqb (kind_num m.kind) 6 (λ z. f (p ∙ z)), ne_eqb (kind_num m.kind) 7 (λ z. g (p ∙ z)), ne_eqb (kind_num m.kind) 8 (λ z. e (p ∙ z))))

-- ---- all of them
module _ (text : List ℕ) (m : Met) (line : ℕ) (s a : State) (p : a ≡ pick (eqb (kind_num m.kind) 9) (open_list (marker_in m.kind) m.start s) s) where
  abbrev after : State → State
  after y = go (pick (eqb (marker_num (marker_in m.kind)) 4) (open_term m y) y) (enter_of (container_node text m line))

  opens : open_container text m line s ≡ go a after
  unfolding open_container
  opens = ap (λ (y : State). go y after) (sym p)

  pub open-1 : (a.number ≡ 0 → ⊥) → a ≡ open_container text m line s
  open-1 z = sym (opens ∙ go-stop a after z)

  module _ (za : a.number ≡ 0) (b : State) (q : b ≡ pick (eqb (marker_num (marker_in m.kind)) 4) (open_term m a) a) where
    opens-own : open_container text m line s ≡ go b (enter_of (container_node text m line))
    opens-own = opens ∙ go_on a after za ∙ ap (λ (y : State). go y (enter_of (container_node text m line))) (sym q)

    pub open-2 : (b.number ≡ 0 → ⊥) → b ≡ open_container text m line s
    open-2 z = sym (opens-own ∙ go-stop b (enter_of (container_node text m line)) z)

    pub open-3 : b.number ≡ 0 → (x : Node) → x ≡ container_node text m line → enter_of x b ≡ open_container text m line s
    open-3 z x r = ap (λ (y : Node). enter_of y b) r ∙ sym (opens-own ∙ go_on b (enter_of (container_node text m line)) z)
