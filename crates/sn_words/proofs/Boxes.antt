-- The words of raw boxes, cut at their commas.
use Rattle.std.proofs.Common.{◌≡◌, ℕ, List, [], ◌∷◌, ◌++◌, Some, None, sym, ap, ◌∙◌, subst}
use Rattle.std.specs.List.{join_with_byte}
use Rattle.sn_geom.specs.Decimal.{HasOneNumber, ScalesToOne}
use Rattle.sn_geom.specs.declared.units.Pt3.{Pt3}
use Rattle.sn_words.specs.Options.{IsBox}
use Rattle.sn_words.specs.Reading.{cut_at}
use Rattle.sn_words.specs.WordForms.{ArePointTexts, IsBoxWord, comma}
use Rattle.sn_words.specs.declared.options.RawBox.{RawBox}
use Rattle.sn_words.proofs.Cutting.{cut_at-front, cut_at-joined, same_parts}
use Rattle.sn_words.proofs.WordLemmas.{length_lacks, point_same}

-- the first two of the texts between commas
pub record CutsTwo (text x y rest : List ℕ) : Type 0 where
  pub between : List ℕ
  pub first : cut_at comma text ≡ Some (x, between)
  pub second : cut_at comma between ≡ Some (y, rest)

-- the six texts between the commas
pub record CutsSix (text x0 y0 z0 x1 y1 z1 : List ℕ) : Type 0 where
  pub behind_y : List ℕ
  pub behind_z : List ℕ
  pub low : CutsTwo text x0 y0 behind_y
  pub middle : cut_at comma behind_y ≡ Some (z0, behind_z)
  pub high : CutsTwo behind_z x1 y1 z1

two_same : (text x y r x' y' r' : List ℕ) → CutsTwo text x y r → CutsTwo text x' y' r' → (x ≡ x') × (y ≡ y') × (r ≡ r')
two_same text x y r x' y' r' h k =
    let one = same_parts x h.between x' k.between (sym h.first ∙ k.first) in
    let two = same_parts y r y' r' (sym h.second ∙ (ap (cut_at comma) one.1 ∙ k.second)) in
    (one.0, two.0, two.1)

pub record SameSix (x0 y0 z0 x1 y1 z1 x0' y0' z0' x1' y1' z1' : List ℕ) : Type 0 where
  pub ex0 : x0 ≡ x0'
  pub ey0 : y0 ≡ y0'
  pub ez0 : z0 ≡ z0'
  pub ex1 : x1 ≡ x1'
  pub ey1 : y1 ≡ y1'
  pub ez1 : z1 ≡ z1'

six_same : (text x0 y0 z0 x1 y1 z1 x0' y0' z0' x1' y1' z1' : List ℕ) → CutsSix text x0 y0 z0 x1 y1 z1 → CutsSix text x0' y0' z0' x1' y1' z1'
    → SameSix x0 y0 z0 x1 y1 z1 x0' y0' z0' x1' y1' z1'
six_same text x0 y0 z0 x1 y1 z1 x0' y0' z0' x1' y1' z1' h k =
    let low = two_same text x0 y0 h.behind_y x0' y0' k.behind_y h.low k.low in
    let middle = same_parts z0 h.behind_z z0' k.behind_z (sym h.middle ∙ (ap (cut_at comma) low.2 ∙ k.middle)) in
    let high = two_same k.behind_z x1 y1 z1 x1' y1' z1' (subst (λ t. CutsTwo t x1 y1 z1) middle.1 h.high) k.high in
    record { ex0 = low.0; ey0 = low.1; ez0 = middle.0; ex1 = high.0; ey1 = high.1; ez1 = high.2 }

pub box_cuts : (word : List ℕ) (box : RawBox) (h : IsBoxWord word box) → CutsSix word h.x0 h.y0 h.z0 h.x1 h.y1 h.z1
box_cuts word box h =
    let behind_x1 = h.y1 ++ comma ∷ h.z1 in
    let behind_z0 = h.x1 ++ comma ∷ behind_x1 in
    let behind_y0 = h.z0 ++ comma ∷ behind_z0 in
    let behind_x0 = h.y0 ++ comma ∷ behind_y0 in
    record {
      behind_y = behind_y0;
      behind_z = behind_z0;
      low = record {
        between = behind_x0;
        first = ap (cut_at comma) h.order ∙ cut_at-front comma h.x0 behind_x0 (length_lacks h.x0 box.low.x h.low.x_is);
        second = cut_at-front comma h.y0 behind_y0 (length_lacks h.y0 box.low.y h.low.y_is);
      };
      middle = cut_at-front comma h.z0 behind_z0 (length_lacks h.z0 box.low.z h.low.z_is);
      high = record {
        between = behind_x1;
        first = cut_at-front comma h.x1 behind_x1 (length_lacks h.x1 box.high.x h.high.x_is);
        second = cut_at-front comma h.y1 h.z1 (length_lacks h.y1 box.high.y h.high.y_is);
      };
    }

low_texts : (x y z x' y' z' : List ℕ) (p : Pt3) → x ≡ x' → y ≡ y' → z ≡ z' → ArePointTexts x y z p → ArePointTexts x' y' z' p
low_texts x y z x' y' z' p ex ey ez h =
    subst (λ t. ArePointTexts t y' z' p) ex (subst (λ t. ArePointTexts x t z' p) ey (subst (λ t. ArePointTexts x y t p) ez h))

-- the points of a box have the texts between the commas
pub record HasTexts (x0 y0 z0 x1 y1 z1 : List ℕ) (box : RawBox) : Type 0 where
  pub low : ArePointTexts x0 y0 z0 box.low
  pub high : ArePointTexts x1 y1 z1 box.high
  pub box_is : IsBox box

pub box_texts : (word x0 y0 z0 x1 y1 z1 : List ℕ) (box : RawBox) → CutsSix word x0 y0 z0 x1 y1 z1 → IsBoxWord word box → HasTexts x0 y0 z0 x1 y1 z1 box
box_texts word x0 y0 z0 x1 y1 z1 box cuts h =
    let same = six_same word h.x0 h.y0 h.z0 h.x1 h.y1 h.z1 x0 y0 z0 x1 y1 z1 (box_cuts word box h) cuts in
    record {
      low = low_texts h.x0 h.y0 h.z0 x0 y0 z0 box.low same.ex0 same.ey0 same.ez0 h.low;
      high = low_texts h.x1 h.y1 h.z1 x1 y1 z1 box.high same.ex1 same.ey1 same.ez1 h.high;
      box_is = h.box_is;
    }

abbrev box_at : Pt3 → Pt3 → RawBox
box_at low high = record { low = low; high = high }

box_by_texts : HasOneNumber → ScalesToOne → (x0 y0 z0 x1 y1 z1 : List ℕ) (a b : RawBox) → HasTexts x0 y0 z0 x1 y1 z1 a → HasTexts x0 y0 z0 x1 y1 z1 b → a ≡ b
box_by_texts one once x0 y0 z0 x1 y1 z1 a b h k =
    ap (λ p. box_at p a.high) (point_same one once x0 y0 z0 a.low b.low h.low k.low)
    ∙ ap (box_at b.low) (point_same one once x1 y1 z1 a.high b.high h.high k.high)

pub box_same : HasOneNumber → ScalesToOne → (word : List ℕ) (a b : RawBox) → IsBoxWord word a → IsBoxWord word b → a ≡ b
box_same one once word a b h k =
    let cuts = box_cuts word a h in
    box_by_texts one once h.x0 h.y0 h.z0 h.x1 h.y1 h.z1 a b (record { low = h.low; high = h.high; box_is = h.box_is })
    (box_texts word h.x0 h.y0 h.z0 h.x1 h.y1 h.z1 b cuts k)

-- ---- reading a box

-- points with the texts of a box make a box
pub box_of_texts : HasOneNumber → ScalesToOne → (x0 y0 z0 x1 y1 z1 : List ℕ) (box : RawBox) (low high : Pt3) → HasTexts x0 y0 z0 x1 y1 z1 box
    → ArePointTexts x0 y0 z0 low → ArePointTexts x1 y1 z1 high → IsBox (record { low = low; high = high })
box_of_texts one once x0 y0 z0 x1 y1 z1 box low high h l k =
    let el = point_same one once x0 y0 z0 box.low low h.low l in
    let eh = point_same one once x1 y1 z1 box.high high h.high k in
    subst (λ p. IsBox (box_at p high)) el (subst (λ p. IsBox (box_at box.low p)) eh h.box_is)

pub no_first : (word : List ℕ) → cut_at comma word ≡ None → (box : RawBox) → ¬ IsBoxWord word box
no_first word none box h = let cut = (box_cuts word box h).low.first in cc

pub no_second : (word x rest : List ℕ) → cut_at comma word ≡ Some (x, rest) → cut_at comma rest ≡ None → (box : RawBox) → ¬ IsBoxWord word box
no_second word x rest first none box h =
    let cuts = box_cuts word box h in
    let parts = same_parts x rest h.x0 cuts.low.between (sym first ∙ cuts.low.first) in
    let cut = ap (cut_at comma) parts.1 ∙ cuts.low.second in cc

pub no_third : (word x y rest : List ℕ) → CutsTwo word x y rest → cut_at comma rest ≡ None → (box : RawBox) → ¬ IsBoxWord word box
no_third word x y rest two none box h =
    let cuts = box_cuts word box h in
    let parts = two_same word x y rest h.x0 h.y0 cuts.behind_y two cuts.low in
    let cut = ap (cut_at comma) parts.2 ∙ cuts.middle in cc

behind_third : (word x y rest z behind : List ℕ) → CutsTwo word x y rest → cut_at comma rest ≡ Some (z, behind) → (box : RawBox) (h : IsBoxWord word box)
    → behind ≡ (box_cuts word box h).behind_z
behind_third word x y rest z behind two third box h =
    let cuts = box_cuts word box h in
    let parts = two_same word x y rest h.x0 h.y0 cuts.behind_y two cuts.low in
    (same_parts z behind h.z0 cuts.behind_z (sym third ∙ (ap (cut_at comma) parts.2 ∙ cuts.middle))).1

pub no_fourth : (word x y rest z behind : List ℕ) → CutsTwo word x y rest → cut_at comma rest ≡ Some (z, behind) → cut_at comma behind ≡ None
    → (box : RawBox) → ¬ IsBoxWord word box
no_fourth word x y rest z behind two third none box h =
    let cut = ap (cut_at comma) (behind_third word x y rest z behind two third box h) ∙ (box_cuts word box h).high.first in cc

pub no_fifth : (word x y rest z behind x1 last : List ℕ) → CutsTwo word x y rest → cut_at comma rest ≡ Some (z, behind) → cut_at comma behind ≡ Some (x1, last)
    → cut_at comma last ≡ None → (box : RawBox) → ¬ IsBoxWord word box
no_fifth word x y rest z behind x1 last two third fourth none box h =
    let cuts = box_cuts word box h in
    let parts = same_parts x1 last h.x1 cuts.high.between (sym fourth ∙ (ap (cut_at comma) (behind_third word x y rest z behind two third box h) ∙ cuts.high.first)) in
    let cut = ap (cut_at comma) parts.1 ∙ cuts.high.second in cc

-- the texts between the commas, joined again
pub joined_six : (word x0 y0 z0 x1 y1 z1 : List ℕ) → CutsSix word x0 y0 z0 x1 y1 z1
    → word ≡ join_with_byte comma (x0 ∷ y0 ∷ z0 ∷ x1 ∷ y1 ∷ z1 ∷ [])
joined_six word x0 y0 z0 x1 y1 z1 h =
    let e5 = cut_at-joined comma h.high.between y1 z1 h.high.second in
    let e4 = cut_at-joined comma h.behind_z x1 h.high.between h.high.first ∙ ap (λ t. x1 ++ comma ∷ t) e5 in
    let e3 = cut_at-joined comma h.behind_y z0 h.behind_z h.middle ∙ ap (λ t. z0 ++ comma ∷ t) e4 in
    let e2 = cut_at-joined comma h.low.between y0 h.behind_y h.low.second ∙ ap (λ t. y0 ++ comma ∷ t) e3 in
    cut_at-joined comma word x0 h.low.between h.low.first ∙ ap (λ t. x0 ++ comma ∷ t) e2
