-- Openings and required nodes, as planes give them.
use Rattle.std.proofs.Common.{ℕ, ◌≡◌, ◌*◌, ◌<◌, ◌≤◌, ◌↔◌, ◌⊎◌, inl, inr, List, [], ◌∷◌, sym, ap, ◌∙◌, subst, ⊎_elim, arith}
use Rattle.sn_geom.specs.declared.units.Pt.{Pt}
use Rattle.sn_geom.specs.Sweep.{Near}
use Rattle.sn_geom.specs.SweepLaws.{NearOnePlace}
use Rattle.sn_outline.specs.OutlineLaws.{TrailIsItsSegments}
use Rattle.sn_outline.specs.declared.job.StepJob.{StepJob}
use Rattle.sn_outline.specs.declared.job.Way.{Way}
use Rattle.sn_outline.specs.declared.job.Way.TheVariants as way
use Rattle.sn_outline.specs.declared.outline.Outline.{Outline}
use Rattle.sn_open.specs.declared.least.Allowance.TheVariants.{Side}
use Rattle.sn_open.specs.Least.{IsLeast}
use Rattle.sn_outline.specs.declared.outline.Shape.{Shape}
use Rattle.sn_outline.specs.declared.outline.Shape.TheVariants.{Rect, Circle, Polygon, Trail}
use Rattle.sn_outline.specs.Outline.{NearTrail}
use Rattle.sn_outline.specs.Job.{Job}
use Rattle.sn_outline.specs.JobRule.{IsJob}
use Rattle.sn_raster.specs.Grid.{Grid, Node, Nodes, place, InDisc, IsGrid, IsGridOf, IsInWindow, IsInRaw, IsRawNode, greatest_margin}
use Rattle.sn_raster.specs.GridLaws.{MarginIsGreatest, RawNodesAreTheJobs}
use Rattle.sn_raster.specs.Plane.{Plane, Has, IsEmpty}
use Rattle.sn_open.specs.Region.{IsFollowedAt, InAllowed, IsFreeCentre, IsFollowed, IsDrilledAtCentre, InRounded, IsRequiredBy, KeepsSide, IsStepOf, HasLeastSide}
use Rattle.sn_open.specs.Planes.{IsGridWith, CellSet, AreAllowed, IsOpeningPlane, AreRequired}
use Rattle.sn_open.specs.PlaneLaws.{OutsideIsAllowed, WindowHasDiscs}
use Rattle.sn_open.specs.OnGrid.{IsCleared, IsDrilledOn, HasRoomOn}
use Rattle.sn_open.specs.Morphology.{HasDisc, IsNearOne, HasBlock}
use Rattle.sn_open.proofs.WindowLemmas.{in_own_window}
use Rattle.sn_open.proofs.MorphologyLemmas.{has_or_lacks}
use Rattle.sn_open.proofs.OutsideLemmas.{IsWide, margins, raw_of_other}
use Rattle.sn_open.proofs.RegionLemmas.{raw_of_job}

-- What is known where planes of a step are made.
pub record IsMaking (g : Grid) (job : Job) (step : StepJob) : Type 0 where
  pub rule : IsGrid g
  pub with : IsGridWith g step
  pub of : IsGridOf g job
  pub margin : MarginIsGreatest
  pub raws : RawNodesAreTheJobs
  pub outside : OutsideIsAllowed
  pub discs : WindowHasDiscs

-- the centre of a disc with a raw node is in the window, if the diameter is not more than twice the margin of the job
pub centre_in : (g : Grid) (job : Job) (step : StepJob) (c n : Node) (d : ℕ) → (making : IsMaking g job step) → d ≤ 2 * greatest_margin making.with.job.steps
    → IsRawNode job n → InDisc job.pitch d (place job.pitch c) n → IsInWindow g c
centre_in g job step c n d making small raw near =
    let with = making.with in
    let same : job.pitch ≡ with.job.pitch = sym making.of.pitch ∙ with.grid.pitch in
    let some : 0 < with.job.pitch = (let least = with.rule.pitch.at_least in omega arith) in
    making.discs g with.job c n d with.rule with.grid small (raw_of_other making.raws g with.job job n some with.grid making.of raw)
    (subst (λ p. InDisc p d (place p c) n) same near)

pub wide : (g : Grid) (job : Job) (step : StepJob) → (making : IsMaking g job step) → IsWide (greatest_margin making.with.job.steps) step
wide g job step making = margins making.margin making.with.job step making.with.executed

-- Clearing.

pub cleared : (g : Grid) (job : Job) (step : StepJob) (centres near nodes : Plane) → IsMaking g job step → centres.grid ≡ g
    → ((n : Node) → IsInWindow g n → Has centres n ↔ IsFreeCentre job step n)
    → ((n : Node) → Has near n ↔ (IsInWindow g n × IsNearOne centres step.body.d n))
    → ((n : Node) → Has nodes n ↔ (Has near n × IsInRaw g n))
    → (n : Node) → Has nodes n ↔ IsCleared job step n
cleared g job step centres near nodes making same free is_near is n =
    let pitch : centres.grid.pitch ≡ job.pitch = ap (λ h. h.pitch) same ∙ making.of.pitch in
    let raw = raw_of_job making.raws g job n making.rule making.of in (
      λ has.
          let (there, inside) = (is n).0 has in
          let (window, (c, has_c, close)) = (is_near n).0 there in
          (raw.0 inside, (c, (free c (in_own_window g centres.grid c (sym same) has_c.in_window)).0 has_c, subst (λ p. InDisc p step.body.d (place p c) n) pitch close)),
      λ (raw_n, (c, is_free, close)).
          let tool = (wide g job step making).tool in
          let c_in = centre_in g job step c n step.body.d making tool raw_n close in
          let inside = raw.1 raw_n in
          (is n).1 ((is_near n).1 (making.rule.raw n inside, (c, (free c c_in).1 is_free, subst (λ p. InDisc p step.body.d (place p c) n) (sym pitch) close)), inside),
    )

-- Trails.

pub followed_at : (job : Job) (step : StepJob) (shape : Shape) (n : Node) → IsFollowedAt job.pitch step shape n ↔ IsFollowed job step shape n
followed_at job step (Rect low high) n = ((λ p. p), (λ p. p))
followed_at job step (Circle centre d) n = ((λ p. p), (λ p. p))
followed_at job step (Polygon points) n = ((λ p. p), (λ p. p))
followed_at job step (Trail points width) n = ((λ p. p), (λ p. p))

pub followed : (g : Grid) (job : Job) (step : StepJob) (near nodes : Plane) → RawNodesAreTheJobs → IsGrid g → IsGridOf g job
    → ((n : Node) → Has near n ↔ (IsInWindow g n × IsFollowedAt g.pitch step step.outline.shape n))
    → ((n : Node) → Has nodes n ↔ (Has near n × IsInRaw g n))
    → (n : Node) → Has nodes n ↔ (IsRawNode job n × IsFollowed job step step.outline.shape n)
followed g job step near nodes raws rule of is_near is n =
    let raw = raw_of_job raws g job n rule of in
    let at = followed_at job step step.outline.shape n in (
      λ has.
          let (there, inside) = (is n).0 has in
          (raw.0 inside, at.0 (subst (λ p. IsFollowedAt p step step.outline.shape n) of.pitch ((is_near n).0 there).1)),
      λ (raw_n, on).
          let inside = raw.1 raw_n in
          (is n).1 ((is_near n).1 (rule.raw n inside, subst (λ p. IsFollowedAt p step step.outline.shape n) (sym of.pitch) (at.1 on)), inside),
    )

-- Drilling.

pub has_room : (g : Grid) (job : Job) (step : StepJob) (cells : CellSet) (centre : Pt) → IsMaking g job step → cells.plane.grid ≡ g → AreAllowed cells job step
    → HasRoomOn cells.plane step.body.d centre ↔ ((m : Node) → InDisc job.pitch step.body.d centre m → InAllowed job step m)
has_room g job step cells centre making same are =
    let pitch : job.pitch ≡ cells.plane.grid.pitch = sym making.of.pitch ∙ ap (λ h. h.pitch) (sym same) in (
      λ room m near.
          ⊎_elim
          (λ (inside : IsInWindow g m).
          let there = in_own_window cells.plane.grid g m same inside in
          (are.nodes m there).0 (room m there (subst (λ p. InDisc p step.body.d centre m) pitch near)))
          (λ (allowed : InAllowed job step m). allowed) (making.outside g job step m making.with making.of),
      λ all m inside near. (are.nodes m inside).1 (all m (subst (λ p. InDisc p step.body.d centre m) (sym pitch) near)),
    )

pub drilled_on : (g : Grid) (job : Job) (step : StepJob) (cells : CellSet) (n : Node) → IsMaking g job step → cells.plane.grid ≡ g → AreAllowed cells job step
    → (shape : Shape) → IsDrilledOn cells.plane step shape n ↔ IsDrilledAtCentre job step shape n
drilled_on g job step cells n making same are (Rect low high) = ((λ p. p), (λ p. p))
drilled_on g job step cells n making same are (Circle centre d) =
    let room = has_room g job step cells centre making same are in
    let pitch : job.pitch ≡ cells.plane.grid.pitch = sym making.of.pitch ∙ ap (λ h. h.pitch) (sym same) in (
      (λ (near, free). record { under = subst (λ p. InDisc p step.body.d centre n) (sym pitch) near; free = room.0 free }),
      (λ drilled. (subst (λ p. InDisc p step.body.d centre n) pitch drilled.under, room.1 drilled.free)),
    )
drilled_on g job step cells n making same are (Polygon points) = ((λ p. p), (λ p. p))
drilled_on g job step cells n making same are (Trail points width) = ((λ p. p), (λ p. p))

pub drilled : (g : Grid) (job : Job) (step : StepJob) (cells : CellSet) (near nodes : Plane) → IsMaking g job step → cells.plane.grid ≡ g → AreAllowed cells job step
    → ((n : Node) → Has near n ↔ (IsInWindow g n × IsDrilledOn cells.plane step step.outline.shape n))
    → ((n : Node) → Has nodes n ↔ (Has near n × IsInRaw g n))
    → (n : Node) → Has nodes n ↔ (IsRawNode job n × IsDrilledAtCentre job step step.outline.shape n)
drilled g job step cells near nodes making same are is_near is n =
    let raw = raw_of_job making.raws g job n making.rule making.of in
    let on = drilled_on g job step cells n making same are step.outline.shape in (
      λ has. let (there, inside) = (is n).0 has in (raw.0 inside, on.0 ((is_near n).0 there).1),
      λ (raw_n, by). let inside = raw.1 raw_n in (is n).1 ((is_near n).1 (making.rule.raw n inside, on.1 by), inside),
    )

-- Required nodes.

pub rounded : (g : Grid) (job : Job) (step : StepJob) (cells : CellSet) (centres near : Plane) → IsMaking g job step → cells.plane.grid ≡ g → AreAllowed cells job step
    → ((n : Node) → Has centres n ↔ (IsInWindow g n × HasDisc cells.plane step.corner n))
    → centres.grid ≡ g → ((n : Node) → Has near n ↔ (IsInWindow g n × IsNearOne centres step.corner n))
    → (q : Node) → IsRawNode job q → IsInWindow g q → Has near q ↔ InRounded job step q
rounded g job step cells centres near making same are is_clear same' is_near q raw window =
    let of = making.of in
    let pitch : job.pitch ≡ cells.plane.grid.pitch = sym of.pitch ∙ ap (λ h. h.pitch) (sym same) in
    let pitch' : centres.grid.pitch ≡ job.pitch = ap (λ h. h.pitch) same' ∙ of.pitch in (
      λ has.
          let (_, (c, has_c, close)) = (is_near q).0 has in (
            c,
            subst (λ p. InDisc p step.corner (place p c) q) pitch' close,
            λ m near_m.
                ⊎_elim
                (λ (inside : IsInWindow g m).
                let there = in_own_window cells.plane.grid g m same inside in
                (are.nodes m there).0 (((is_clear c).0 has_c).1 m there (subst (λ p. InDisc p step.corner (place p c) m) pitch near_m)))
                (λ (allowed : InAllowed job step m). allowed) (making.outside g job step m making.with of),
          ),
      λ (c, close, free).
          let corner = (wide g job step making).corner in
          let c_in = centre_in g job step c q step.corner making corner raw close in
          let has_c = (is_clear c).1 (c_in, λ m inside near_m. (are.nodes m inside).1 (free m (subst (λ p. InDisc p step.corner (place p c) m) (sym pitch) near_m))) in
          (is_near q).1 (window, (c, has_c, subst (λ p. InDisc p step.corner (place p c) q) (sym pitch') close)),
    )

pub required_nodes : (g : Grid) (job : Job) (step : StepJob) (near lacking bad good kept nodes : Plane) → IsMaking g job step
    → ((q : Node) → IsRawNode job q → IsInWindow g q → Has near q ↔ InRounded job step q)
    → near.grid ≡ g → bad.grid ≡ g → good.grid ≡ g
    → ((n : Node) → Has lacking n ↔ (IsInWindow near.grid n × (¬ Has near n)))
    → ((n : Node) → Has bad n ↔ (Has lacking n × IsInRaw g n))
    → ((n : Node) → Has good n ↔ (IsInWindow bad.grid n × (¬ Has bad n)))
    → ((n : Node) → Has kept n ↔ (IsInWindow g n × HasBlock good n))
    → ((n : Node) → Has nodes n ↔ (Has kept n × IsInRaw g n))
    → (n : Node) → Has nodes n ↔ IsRequiredBy job step n
required_nodes g job step near lacking bad good kept nodes making is_near near_g bad_g good_g is_lacking is_bad is_good is_kept is n =
    let raw_of = λ (q : Node). raw_of_job making.raws g job q making.rule making.of in (
      λ has.
          let (there, inside) = (is n).0 has in
          record {
            raw = (raw_of n).0 inside;
            block = λ m close raw_m.
                let m_raw = (raw_of m).1 raw_m in
                let m_in = making.rule.raw m m_raw in
                let good_m = ((is_kept n).0 there).1 m (in_own_window good.grid g m good_g m_in) close in
                let free = ((is_good m).0 good_m).1 in
                let m_near = in_own_window near.grid g m near_g m_in in
                ⊎_elim (λ (has_m : Has near m). (is_near m raw_m m_in).0 has_m)
                (λ (lacks : ¬ Has near m). absurd (free ((is_bad m).1 ((is_lacking m).1 (m_near, lacks), m_raw)))) (has_or_lacks near m m_near);
          },
      λ required.
          let inside = (raw_of n).1 required.raw in
          (is n).1 (
            (is_kept n).1 (
              making.rule.raw n inside,
              λ q q_in close.
                  let q_g = in_own_window g good.grid q (sym good_g) q_in in
                  (is_good q).1 (
                    in_own_window bad.grid g q bad_g q_g,
                    λ has_bad.
                        let (lacks, q_raw) = (is_bad q).0 has_bad in
                        let raw_q = (raw_of q).0 q_raw in
                        ((is_lacking q).0 lacks).1 ((is_near q raw_q q_g).1 (required.block q close raw_q)),
                  ),
            ),
            inside,
          ),
    )

-- The disc about a point, where a plane has all of it.

pub disc_is : NearOnePlace → (d : ℕ) (centre : Pt) (allowed old near : Plane) → old.grid ≡ allowed.grid → IsEmpty old
    → ((n : Node) → Has near n ↔ (Has old n ⊎ (IsInWindow old.grid n × Near d centre centre (place old.grid.pitch n))))
    → (n : Node) → Has near n ↔ (IsInWindow old.grid n × InDisc allowed.grid.pitch d centre n)
disc_is law d centre allowed old near same empty is n =
    let at = law d centre (place old.grid.pitch n) in
    let pitch = ap (λ (g : Grid). g.pitch) same in (
      λ has.
          ⊎_elim (λ (was : Has old n). absurd (empty n was))
          (λ (here : IsInWindow old.grid n × Near d centre centre (place old.grid.pitch n)). (here.0, subst (λ p. InDisc p d centre n) pitch (at.0 here.1))) ((is n).0 has),
      λ (window, disc). (is n).1 (inr (window, at.1 (subst (λ p. InDisc p d centre n) (sym pitch) disc))),
    )

pub with_room : (d : ℕ) (centre : Pt) (allowed old near : Plane) → old.grid ≡ allowed.grid
    → ((n : Node) → Has near n ↔ (IsInWindow old.grid n × InDisc allowed.grid.pitch d centre n)) → ((n : Node) → Has near n → Has allowed n)
    → (n : Node) → Has near n ↔ (IsInWindow old.grid n × InDisc allowed.grid.pitch d centre n × HasRoomOn allowed d centre)
with_room d centre allowed old near same is all n =
    let room : HasRoomOn allowed d centre = (λ m window close. all m ((is m).1 (in_own_window old.grid allowed.grid m same window, close))) in (
      (λ has. let (window, close) = (is n).0 has in (window, close, room)),
      (λ (window, close, _). (is n).1 (window, close)),
    )

pub without_room : (d : ℕ) (centre : Pt) (allowed old near cleared : Plane) → old.grid ≡ allowed.grid
    → ((n : Node) → Has near n ↔ (IsInWindow old.grid n × InDisc allowed.grid.pitch d centre n)) → ((m : Node) × Has near m × (¬ Has allowed m)) → IsEmpty cleared
    → (n : Node) → Has cleared n ↔ (IsInWindow old.grid n × InDisc allowed.grid.pitch d centre n × HasRoomOn allowed d centre)
without_room d centre allowed old near cleared same is (m, has, lacks) empty n = (
  (λ has'. absurd (empty n has')),
  (λ (window, close, room). let (m_in, m_close) = (is m).0 has in absurd (lacks (room m (in_own_window allowed.grid old.grid m (sym same) m_in) m_close))),
)

-- A trail, segment by segment: what the plane has with the rest of the trail is what it had with all of it.

abbrev pub HasOrNear : Plane → Grid → List Pt → ℕ → Nodes
HasOrNear plane g points d n = Has plane n ⊎ (IsInWindow g n × NearTrail points d (place g.pitch n))

pub next_segment : TrailIsItsSegments → (g : Grid) (d : ℕ) (from to : Pt) (more points : List Pt) (start old new : Plane) → old.grid ≡ g
    → ((n : Node) → HasOrNear old g (from ∷ to ∷ more) d n ↔ HasOrNear start g points d n)
    → ((n : Node) → Has new n ↔ (Has old n ⊎ (IsInWindow old.grid n × Near d from to (place old.grid.pitch n))))
    → (n : Node) → HasOrNear new g (to ∷ more) d n ↔ HasOrNear start g points d n
next_segment law g d from to more points start old new same before is n =
    let split = (law d from to (place g.pitch n) more).0 in
    let added : Has new n ↔ (Has old n ⊎ (IsInWindow g n × Near d from to (place g.pitch n))) =
    subst (λ (h : Grid). Has new n ↔ (Has old n ⊎ (IsInWindow h n × Near d from to (place h.pitch n)))) same (is n) in (
      λ either.
          (before n).0
          (⊎_elim
          (λ (has : Has new n).
          ⊎_elim (λ (was : Has old n). inl was) (λ (here : IsInWindow g n × Near d from to (place g.pitch n)). inr (here.0, split.1 (inl here.1))) (added.0 has))
          (λ (rest : IsInWindow g n × NearTrail (to ∷ more) d (place g.pitch n)). inr (rest.0, split.1 (inr rest.1))) either),
      λ whole.
          ⊎_elim (λ (was : Has old n). inl (added.1 (inl was)))
          (λ (near : IsInWindow g n × NearTrail (from ∷ to ∷ more) d (place g.pitch n)).
          ⊎_elim (λ (here : Near d from to (place g.pitch n)). inl (added.1 (inr (near.0, here)))) (λ (rest : NearTrail (to ∷ more) d (place g.pitch n)). inr (near.0, rest)) (split.0 near.1))
          ((before n).1 whole),
    )

pub last_segment : TrailIsItsSegments → (g : Grid) (d : ℕ) (from : Pt) (points : List Pt) (start now : Plane)
    → ((n : Node) → HasOrNear now g (from ∷ []) d n ↔ HasOrNear start g points d n) → (n : Node) → Has now n ↔ HasOrNear start g points d n
last_segment law g d from points start now is n = (
  λ has. (is n).0 (inl has),
  λ whole.
      ⊎_elim (λ (has : Has now n). has)
      (λ (near : IsInWindow g n × NearTrail (from ∷ []) d (place g.pitch n)). absurd ((law d from from (place g.pitch n) []).1 near.1)) ((is n).1 whole),
)

-- Openings, by the way of the step.

abbrev pub reached_at : Job → StepJob → Way → Nodes
reached_at job step w n = elim w [
  | way.Clear ↦ (c : Node) × IsFreeCentre job step c × InDisc job.pitch step.body.d (place job.pitch c) n
  | way.Trail ↦ IsFollowed job step step.outline.shape n
  | way.Drill ↦ IsDrilledAtCentre job step step.outline.shape n
]

pub opening_plane : (g : Grid) (job : Job) (step : StepJob) (w : Way) (plane : Plane) → step.way ≡ w → plane.grid ≡ g → IsGridOf g job
    → ((n : Node) → Has plane n ↔ (IsRawNode job n × reached_at job step w n)) → IsOpeningPlane plane job step
opening_plane g job step w plane is same of nodes =
    let whole : (n : Node) → Has plane n ↔ (IsRawNode job n × reached_at job step step.way n) =
    subst (λ v. (n : Node) → Has plane n ↔ (IsRawNode job n × reached_at job step v n)) (sym is) nodes in
    record {
      grid = subst (λ h. IsGridOf h job) (sym same) of;
      nodes = λ n. (
        (λ has. let both = (whole n).0 has in record { raw = both.0; reached = both.1 }),
        (λ opening. (whole n).1 (opening.raw, opening.reached)),
      );
    }

-- Required nodes of a feature.

rounded_of : Job → Outline → ℕ → ℕ → Nodes
rounded_of job outline side corner q = (c : Node) × InDisc job.pitch corner (place job.pitch c) q
    × ((n : Node) → InDisc job.pitch corner (place job.pitch c) n → KeepsSide job outline side n)

same_rounded : (job : Job) (s t : StepJob) (q : Node) → s.outline ≡ t.outline → s.side ≡ t.side → s.corner ≡ t.corner → InRounded job s q → InRounded job t q
unfolding rounded_of
same_rounded job s t q outline side corner in' =
    subst (λ o. rounded_of job o t.side t.corner q) outline (subst (λ k. rounded_of job s.outline k t.corner q) side (subst (λ k. rounded_of job s.outline s.side k q) corner in'))

pub required_plane : (g : Grid) (job : Job) (feature : ℕ) (step : StepJob) (steps : List StepJob) (plane : Plane) → IsJob job → plane.grid ≡ g → IsGridOf g job
    → steps ≡ job.steps → IsLeast steps feature Side step → ((n : Node) → Has plane n ↔ IsRequiredBy job step n) → AreRequired plane job feature
required_plane g job feature step steps plane rule same of all least nodes =
    let least' : IsLeast job.steps feature Side step = subst (λ xs. IsLeast xs feature Side step) all least in
    let of_feature : IsStepOf job feature step = record { executed = least'.among; cuts = least'.cuts } in
    let has_least : HasLeastSide job feature step = record { of_feature = of_feature; least = λ other other_of. least'.least other other_of.executed (other_of.cuts ∙ sym least'.cuts) } in
    record {
      grid = subst (λ h. IsGridOf h job) (sym same) of;
      nodes = λ n. (
        (λ has. (step, has_least, (nodes n).0 has)),
        (λ (other, other_least, required).
            let alike = rule.features other step other_least.of_feature.executed least'.among (other_least.of_feature.cuts ∙ sym least'.cuts) in
            let a = other_least.least step of_feature in
            let b = has_least.least other other_least.of_feature in
            let side : other.side ≡ step.side = omega arith in
            (nodes n).1 (record { raw = required.raw; block = λ m close raw. same_rounded job other step m alike.outline side alike.corner (required.block m close raw) })),
      );
    }
