-- Planes over one grid, mark by mark and node by node.
use Rattle.std.proofs.Common.{ℕ, ◌≡◌, ◌*◌, ◌/◌, ◌%◌, ◌<◌, ◌↔◌, ℤ, pos, ◌+ℤ◌, ◌-ℤ◌, ◌≤ℤ◌, unsigned_abs, Bool, true, false, IsTrue, List, length, get_or, refl, sym, ap, ◌∙◌, subst, arith}
use Rattle.std.proofs.lemmas.Nat.{div_below, mod_below, div-add-mod'}
use Rattle.std.proofs.lemmas.List.{ext_get_or}
use Rattle.std.proofs.lemmas.Bool.{false≢true}
use Rattle.std.proofs.lemmas.Int.{ints, clamps}
use Rattle.std.proofs.Math.Nat.{mul_comm}
use Rattle.sn_raster.specs.Grid.{Grid, Node, IsInWindow, places}
use Rattle.sn_raster.specs.Plane.{Plane, Has, mark_of}
use Rattle.sn_raster.specs.PlaneLaws.{PlanesAreTheirNodes, NodesHaveMarks, MarksAreNodes}
use Rattle.sn_raster.proofs.GridParts.{some_left}
use Rattle.sn_raster.proofs.Marks.{mark_below, one_node}

-- the node of a mark
abbrev pub node_of : Grid → ℕ → Node
node_of g k = record { i = g.i0 +ℤ pos (k % places g.i0 g.i1); j = g.j0 +ℤ pos (k / places g.i0 g.i1) }

place_after : (first : ℤ) (k : ℕ) → unsigned_abs (first +ℤ pos k -ℤ first) ≡ k
place_after first k = omega (arith, ints)

not_before : (first : ℤ) (k : ℕ) → first ≤ℤ (first +ℤ pos k)
not_before first k = omega (arith, ints)

not_past : (first last : ℤ) (k : ℕ) → k < places first last → (first +ℤ pos k) ≤ℤ last
not_past first last k below = omega (arith, ints, clamps)

pub mark_of_node : (g : Grid) (k : ℕ) → mark_of g (node_of g k) ≡ k
mark_of_node g k =
    rw (place_after g.j0 (k / places g.i0 g.i1), place_after g.i0 (k % places g.i0 g.i1)) (div-add-mod' k (places g.i0 g.i1))

pub node_in_window : (g : Grid) (k : ℕ) → k < places g.i0 g.i1 * places g.j0 g.j1 → IsInWindow g (node_of g k)
node_in_window g k below =
    let some = some_left (places g.i0 g.i1) (places g.j0 g.j1) (omega arith) in
    let turned : k < places g.j0 g.j1 * places g.i0 g.i1 = (rw (mul_comm (places g.j0 g.j1) (places g.i0 g.i1)) below) in
    record {
      left = not_before g.i0 _;
      right = not_past g.i0 g.i1 _ (mod_below k (places g.i0 g.i1) some);
      front = not_before g.j0 _;
      back = not_past g.j0 g.j1 _ (div_below k (places g.i0 g.i1) (places g.j0 g.j1) some turned);
    }

pub same_test : (x y : Bool) → (IsTrue x → IsTrue y) → (IsTrue y → IsTrue x) → x ≡ y
same_test true true to back = refl
same_test true false to back = absurd (false≢true (to refl))
same_test false true to back = absurd (false≢true (back refl))
same_test false false to back = refl

pub has_mark : (g : Grid) (marks : List Bool) (k : ℕ) → k < places g.i0 g.i1 * places g.j0 g.j1
    → Has (record { grid = g; marks = marks }) (node_of g k) ↔ IsTrue (get_or marks k false)
has_mark g marks k below =
    let P : ℕ → Type 0 = λ m. IsTrue (get_or marks m false) in (
      (λ has. subst P (mark_of_node g k) has.marked),
      (λ marked. record { in_window = node_in_window g k below; marked = subst P (sym (mark_of_node g k)) marked }),
    )

same_marks : (g : Grid) (a b : List Bool) → length a ≡ places g.i0 g.i1 * places g.j0 g.j1 → length b ≡ places g.i0 g.i1 * places g.j0 g.j1
    → ((n : Node) → Has (record { grid = g; marks = a }) n ↔ Has (record { grid = g; marks = b }) n) → a ≡ b
same_marks g a b full full' same =
    ext_get_or false a b (full ∙ sym full') (λ k below.
    let within : k < places g.i0 g.i1 * places g.j0 g.j1 = omega arith in
    let first = has_mark g a k within in
    let second = has_mark g b k within in
    let nodes = same (node_of g k) in
    same_test _ _ (λ t. second.0 (nodes.0 (first.1 t))) (λ t. first.0 (nodes.1 (second.1 t))))

pub planes_are_their_nodes : PlanesAreTheirNodes
planes_are_their_nodes a b rule rule' grid same =
    let P : Grid → Node → Type 0 = λ g n. Has (record { grid = g; marks = b.marks }) n in
    let full : length b.marks ≡ places a.grid.i0 a.grid.i1 * places a.grid.j0 a.grid.j1 = (rw grid rule'.full) in
    let marks = same_marks a.grid a.marks b.marks rule.full full (λ n. (
      (λ has. subst (λ (g : Grid). P g n) (sym grid) ((same n).0 has)),
      (λ has. (same n).1 (subst (λ (g : Grid). P g n) grid has)),
    )) in
    λ k. record { grid = grid k; marks = marks k }

-- a mark that is set in one plane alone is that of a node of that plane alone
pub lone_node : (a b : Plane) (g h : Grid) (marks others : List Bool) → record { grid = g; marks = marks } ≡ a → record { grid = h; marks = others } ≡ b → b.grid ≡ a.grid
    → length marks ≡ places g.i0 g.i1 * places g.j0 g.j1 → ((k : ℕ) × (k < length marks) × IsTrue (get_or marks k false) × ¬ IsTrue (get_or others k false)) → (n : Node) × Has a n × ¬ Has b n
lone_node a b g h marks others view view' grids full (k, within, on, off) =
    let n = node_of g k in
    let same : h ≡ g = ap (λ (p : Plane). p.grid) view' ∙ grids ∙ sym (ap (λ (p : Plane). p.grid) view) in
    let there : Has a n = subst (λ (p : Plane). Has p n) view ((has_mark g marks k (rw (← full) within)).1 on) in
    let P : Grid → Type 0 = λ f. IsTrue (get_or others (mark_of f n) false) in
    let Q : ℕ → Type 0 = λ m. IsTrue (get_or others m false) in
    let lacks : ¬ Has b n = (λ has. off (subst Q (mark_of_node g k) (subst P same (subst (λ (p : Plane). Has p n) (sym view') has).marked))) in
    (n, there, lacks)

pub nodes_have_marks : NodesHaveMarks
nodes_have_marks g n window = (mark_below g n window, λ other in_window same. one_node g other n in_window window same)

pub marks_are_nodes : MarksAreNodes
marks_are_nodes plane k below = (node_of plane.grid k, node_in_window plane.grid k below, mark_of_node plane.grid k, has_mark plane.grid plane.marks k below)
