use Rattle.std.proofs.Common.{sym, ap, ◌∙◌, arith}
use Rattle.std.specs.Option.{option_copied}
use Rattle.sn_model.proofs.KeptLemmas.{map_at, not_none}
use Rattle.sn_model.proofs.model.keep_all.Goals as goal
use Rattle.sn_model.proofs.model.keep_all.Goals.{in-Some+in_ok-keep+in_ok-insert+in-Some+in-Typed-1, in-Some+in_ok-keep+in_ok-insert+in-Some+in-Bad-1, in-Some+in_ok-keep+in_ok-insert+in-None-1, in_default}

pub loop-place-preserved : goal.loop-place-preserved
loop-place-preserved c =
    let more = map_at c.f.inside.instances c.loop-place.place c.loop-place.kept c.match-at.kept.entries c.f.invariant.differ c.loop-place.invariant in
    elim c.match-at.branch [
      | in-Some+in_ok-keep+in_ok-insert+in-Some+in-Typed-1 w ↦
          more w.in-Some.instance.now w.in_ok-keep.field-0 (sym c.at.ensures.value ∙ ap option_copied w.in-Some.is) w.in_ok-keep.ensures (ap (λ m. m.entries) w.kept-is ∙ w.in_ok-insert.ensures.entries)
      | in-Some+in_ok-keep+in_ok-insert+in-Some+in-Bad-1 w ↦
          more w.in-Some.instance.now w.in_ok-keep.field-0 (sym c.at.ensures.value ∙ ap option_copied w.in-Some.is) w.in_ok-keep.ensures (ap (λ m. m.entries) w.kept-is ∙ w.in_ok-insert.ensures.entries)
      | in-Some+in_ok-keep+in_ok-insert+in-None-1 w ↦
          more w.in-Some.instance.now w.in_ok-keep.field-0 (sym c.at.ensures.value ∙ ap option_copied w.in-Some.is) w.in_ok-keep.ensures (ap (λ m. m.entries) w.kept-is ∙ w.in_ok-insert.ensures.entries)
      | in_default w ↦ absurd (not_none c.at.result w.in_default.is (c.at.ensures.within.1 (omega arith)))
    ]
