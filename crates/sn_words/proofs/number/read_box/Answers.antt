use Rattle.std.proofs.Common.{refl}
use Rattle.sn_words.proofs.Boxes.{CutsTwo, CutsSix, no_first, no_second, no_third, no_fourth, no_fifth, joined_six, box_texts, box_of_texts}
use Rattle.sn_words.proofs.number.read_box.Goals as goal

pub returns-in_err-x0-clause-none : goal.returns-in_err-x0-clause-none
returns-in_err-x0-clause-none c = rw c.from_residual.ensures (no_first _ c.in_err-x0.ensures.none)

pub returns-in_err-y0-clause-none : goal.returns-in_err-y0-clause-none
returns-in_err-y0-clause-none c =
    rw c.from_residual-in_err-y0.ensures (no_second _ c.in_ok-x0.x0.now c.in_ok-x0.rest.now c.in_ok-x0.ensures.some c.in_err-y0.ensures.none)

pub returns-in_err-z0-clause-none : goal.returns-in_err-z0-clause-none
returns-in_err-z0-clause-none c =
    let two : CutsTwo c.args.word.now c.in_ok-x0.x0.now c.in_ok-y0.y0.now c.in_ok-y0.rest.now =
    record { between = c.in_ok-x0.rest.now; first = c.in_ok-x0.ensures.some; second = c.in_ok-y0.ensures.some } in
    rw c.from_residual-in_err-z0.ensures (no_third _ c.in_ok-x0.x0.now c.in_ok-y0.y0.now c.in_ok-y0.rest.now two c.in_err-z0.ensures.none)

pub returns-in_err-x1-clause-none : goal.returns-in_err-x1-clause-none
returns-in_err-x1-clause-none c =
    let two : CutsTwo c.args.word.now c.in_ok-x0.x0.now c.in_ok-y0.y0.now c.in_ok-y0.rest.now =
    record { between = c.in_ok-x0.rest.now; first = c.in_ok-x0.ensures.some; second = c.in_ok-y0.ensures.some } in
    rw c.from_residual-in_err-x1.ensures (no_fourth _ c.in_ok-x0.x0.now c.in_ok-y0.y0.now c.in_ok-y0.rest.now c.in_ok-z0.z0.now c.in_ok-z0.rest.now two
    c.in_ok-z0.ensures.some c.in_err-x1.ensures.none)

pub returns-in_err-y1-clause-none : goal.returns-in_err-y1-clause-none
returns-in_err-y1-clause-none c =
    let two : CutsTwo c.args.word.now c.in_ok-x0.x0.now c.in_ok-y0.y0.now c.in_ok-y0.rest.now =
    record { between = c.in_ok-x0.rest.now; first = c.in_ok-x0.ensures.some; second = c.in_ok-y0.ensures.some } in
    rw c.from_residual-in_err-y1.ensures (no_fifth _ c.in_ok-x0.x0.now c.in_ok-y0.y0.now c.in_ok-y0.rest.now c.in_ok-z0.z0.now c.in_ok-z0.rest.now
    c.in_ok-x1.x1.now c.in_ok-x1.rest.now two c.in_ok-z0.ensures.some c.in_ok-x1.ensures.some c.in_err-y1.ensures.none)

pub returns-in_err-low-clause-none : goal.returns-in_err-low-clause-none
returns-in_err-low-clause-none c =
    let cuts : CutsSix c.args.word.now c.in_ok-x0.x0.now c.in_ok-y0.y0.now c.in_ok-z0.z0.now c.in_ok-x1.x1.now c.in_ok-y1.y1.now c.in_ok-y1.z1.now =
    record {
      behind_y = c.in_ok-y0.rest.now;
      behind_z = c.in_ok-z0.rest.now;
      low = record { between = c.in_ok-x0.rest.now; first = c.in_ok-x0.ensures.some; second = c.in_ok-y0.ensures.some };
      middle = c.in_ok-z0.ensures.some;
      high = record { between = c.in_ok-x1.rest.now; first = c.in_ok-x1.ensures.some; second = c.in_ok-y1.ensures.some };
    } in
    rw c.from_residual-in_err-low.ensures (λ box h. c.in_err-low.ensures.none box.low (box_texts _ c.in_ok-x0.x0.now c.in_ok-y0.y0.now c.in_ok-z0.z0.now c.in_ok-x1.x1.now c.in_ok-y1.y1.now c.in_ok-y1.z1.now box cuts h).low)

pub returns-in_err-high-clause-none : goal.returns-in_err-high-clause-none
returns-in_err-high-clause-none c =
    let cuts : CutsSix c.args.word.now c.in_ok-x0.x0.now c.in_ok-y0.y0.now c.in_ok-z0.z0.now c.in_ok-x1.x1.now c.in_ok-y1.y1.now c.in_ok-y1.z1.now =
    record {
      behind_y = c.in_ok-y0.rest.now;
      behind_z = c.in_ok-z0.rest.now;
      low = record { between = c.in_ok-x0.rest.now; first = c.in_ok-x0.ensures.some; second = c.in_ok-y0.ensures.some };
      middle = c.in_ok-z0.ensures.some;
      high = record { between = c.in_ok-x1.rest.now; first = c.in_ok-x1.ensures.some; second = c.in_ok-y1.ensures.some };
    } in
    rw c.from_residual-in_err-high.ensures (λ box h. c.in_err-high.ensures.none box.high (box_texts _ c.in_ok-x0.x0.now c.in_ok-y0.y0.now c.in_ok-z0.z0.now c.in_ok-x1.x1.now c.in_ok-y1.y1.now c.in_ok-y1.z1.now box cuts h).high)

pub returns-then-is_box-clause-some : goal.returns-then-is_box-clause-some
returns-then-is_box-clause-some c =
    let cuts : CutsSix c.args.word.now c.in_ok-x0.x0.now c.in_ok-y0.y0.now c.in_ok-z0.z0.now c.in_ok-x1.x1.now c.in_ok-y1.y1.now c.in_ok-y1.z1.now =
    record {
      behind_y = c.in_ok-y0.rest.now;
      behind_z = c.in_ok-z0.rest.now;
      low = record { between = c.in_ok-x0.rest.now; first = c.in_ok-x0.ensures.some; second = c.in_ok-y0.ensures.some };
      middle = c.in_ok-z0.ensures.some;
      high = record { between = c.in_ok-x1.rest.now; first = c.in_ok-x1.ensures.some; second = c.in_ok-y1.ensures.some };
    } in
    record {
      x0 = c.in_ok-x0.x0.now;
      y0 = c.in_ok-y0.y0.now;
      z0 = c.in_ok-z0.z0.now;
      x1 = c.in_ok-x1.x1.now;
      y1 = c.in_ok-y1.y1.now;
      z1 = c.in_ok-y1.z1.now;
      order = joined_six _ c.in_ok-x0.x0.now c.in_ok-y0.y0.now c.in_ok-z0.z0.now c.in_ok-x1.x1.now c.in_ok-y1.y1.now c.in_ok-y1.z1.now cuts;
      low = c.in_ok-low.ensures.some;
      high = c.in_ok-high.ensures.some;
      box_is = c.if-is_box.ensures.0 refl;
    }

pub returns-else-is_box-clause-none : goal.returns-else-is_box-clause-none
returns-else-is_box-clause-none c =
    let cuts : CutsSix c.args.word.now c.in_ok-x0.x0.now c.in_ok-y0.y0.now c.in_ok-z0.z0.now c.in_ok-x1.x1.now c.in_ok-y1.y1.now c.in_ok-y1.z1.now =
    record {
      behind_y = c.in_ok-y0.rest.now;
      behind_z = c.in_ok-z0.rest.now;
      low = record { between = c.in_ok-x0.rest.now; first = c.in_ok-x0.ensures.some; second = c.in_ok-y0.ensures.some };
      middle = c.in_ok-z0.ensures.some;
      high = record { between = c.in_ok-x1.rest.now; first = c.in_ok-x1.ensures.some; second = c.in_ok-y1.ensures.some };
    } in
    λ box h.
    let same = box_of_texts c.one_reading.ensures.number c.one_rounding.ensures.product _ _ _ _ _ _ box c.in_ok-low.low c.in_ok-high.high
    (box_texts _ c.in_ok-x0.x0.now c.in_ok-y0.y0.now c.in_ok-z0.z0.now c.in_ok-x1.x1.now c.in_ok-y1.y1.now c.in_ok-y1.z1.now box cuts h)
    c.in_ok-low.ensures.some c.in_ok-high.ensures.some in
    let told = c.is_box.ensures.1 same in cc
