-- A comment, read whole.
use Rattle.std.proofs.Common.{◌≡◌, ℕ, true, false, List, Ok, Err, refl}
use Rattle.std.specs.Prelude.{Some}
use Rattle.sn_geom.specs.declared.block.LineFault.TheVariants.{OpenComment}
use Rattle.sn_geom.specs.LineText.{Said, has_end, body_of, comment_at, mark_of, with_mark, is_faulty, said_with}
use Rattle.sn_block.specs.Steps.{step}

pub open_step : (s : Said) (rest : List ℕ) (c : ℕ) → has_end rest ≡ false → step s (Some (comment_at rest)) c ≡ Err (OpenComment c)
unfolding step is_faulty
open_step s rest c e = rw e refl

pub comment_step : (s : Said) (rest : List ℕ) (c : ℕ) → has_end rest ≡ true → step s (Some (comment_at rest)) c ≡ Ok (record { block = with_mark s.block (mark_of (body_of rest)); begun = true })
unfolding step is_faulty said_with
comment_step s rest c e = rw e refl
