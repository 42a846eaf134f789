use Rattle.std.proofs.Common.{◌≡◌, refl, ap, ◌∙◌}
use Rattle.std.proofs.lemmas.Bool.{both_ways}
use Rattle.sn_raster.specs.Grid.{first_place, last_place, first_column, last_column, first_row, last_row}
use Rattle.sn_raster.proofs.Axis.{kept, kept_as, kept_length}
use Rattle.sn_raster.proofs.GridParts.{fits_iff, grid_rule}
use Rattle.sn_raster.proofs.grid.Grid.new.Goals as goal

pub returns-then-not-fits : goal.returns-then-not-fits
returns-then-not-fits c =
    let a : c.grown-columns.result.first ≡ first_column c.args.j.now = cc in
    let b : c.grown-columns.result.last ≡ last_column c.args.j.now = cc in
    let d : c.grown-rows.result.first ≡ first_row c.args.j.now = cc in
    let e : c.grown-rows.result.last ≡ last_row c.args.j.now = cc in
    λ fit. both_ways _ c.if-not-fits.true (c.fits.ensures.1 ((fits_iff c.args.j.now _ _ _ _ _ c.pitch-pitch.ensures a b d e).1 fit))

pub returns : goal.returns
returns c =
    let columns = c.grown-columns.result in
    let rows = c.grown-rows.result in
    let raw_columns = c.between-raw_columns.result in
    let raw_rows = c.between-raw_rows.result in
    let a : columns.first ≡ first_column c.args.j.now = cc in
    let b : columns.last ≡ last_column c.args.j.now = cc in
    let d : rows.first ≡ first_row c.args.j.now = cc in
    let e : rows.last ≡ last_row c.args.j.now = cc in
    let f : raw_columns.first ≡ first_place c.args.j.now.pitch c.args.j.now.low.x = cc in
    let g : raw_columns.last ≡ last_place c.args.j.now.pitch c.args.j.now.high.x = cc in
    let h : raw_rows.first ≡ first_place c.args.j.now.pitch c.args.j.now.low.y = cc in
    let i : raw_rows.last ≡ last_place c.args.j.now.pitch c.args.j.now.high.y = cc in (
      (fits_iff c.args.j.now _ _ _ _ _ c.pitch-pitch.ensures a b d e).0 (c.fits.ensures.0 c.if-not-fits.false),
      record {
        pitch = c.pitch-pitch.ensures;
        columns = (kept _ columns.first_in ∙ a, kept _ columns.last_in ∙ b);
        rows = (kept _ rows.first_in ∙ d, kept _ rows.last_in ∙ e);
        raw_columns = (kept _ raw_columns.first_in ∙ f, kept _ raw_columns.last_in ∙ g);
        raw_rows = (kept _ raw_rows.first_in ∙ h, kept _ raw_rows.last_in ∙ i);
        heights = (kept_as _ _ c.get.ensures.value c.get.ensures.range ∙ ap (λ p. p.z) c.low-low.ensures, kept_as _ _ c.get-2.ensures.value c.get-2.ensures.range ∙ ap (λ p. p.z) c.high-high.ensures);
      },
    )

pub invariant_of-result : goal.invariant_of-result
invariant_of-result c =
    let columns = c.grown-columns.result in
    let rows = c.grown-rows.result in
    let raw_columns = c.between-raw_columns.result in
    let raw_rows = c.between-raw_rows.result in
    let a : columns.first ≡ first_column c.args.j.now = cc in
    let b : columns.last ≡ last_column c.args.j.now = cc in
    let d : rows.first ≡ first_row c.args.j.now = cc in
    let e : rows.last ≡ last_row c.args.j.now = cc in
    let f : raw_columns.first ≡ first_place c.args.j.now.pitch c.args.j.now.low.x = cc in
    let g : raw_columns.last ≡ last_place c.args.j.now.pitch c.args.j.now.high.x = cc in
    let h : raw_rows.first ≡ first_place c.args.j.now.pitch c.args.j.now.low.y = cc in
    let i : raw_rows.last ≡ last_place c.args.j.now.pitch c.args.j.now.high.y = cc in
    grid_rule _ c.args.j.now c.rule.ensures ((fits_iff c.args.j.now _ _ _ _ _ c.pitch-pitch.ensures a b d e).0 (c.fits.ensures.0 c.if-not-fits.false))
    (record {
      pitch = c.pitch-pitch.ensures;
      columns = (kept _ columns.first_in ∙ a, kept _ columns.last_in ∙ b);
      rows = (kept _ rows.first_in ∙ d, kept _ rows.last_in ∙ e);
      raw_columns = (kept _ raw_columns.first_in ∙ f, kept _ raw_columns.last_in ∙ g);
      raw_rows = (kept _ raw_rows.first_in ∙ h, kept _ raw_rows.last_in ∙ i);
      heights = (kept_as _ _ c.get.ensures.value c.get.ensures.range ∙ ap (λ p. p.z) c.low-low.ensures, kept_as _ _ c.get-2.ensures.value c.get-2.ensures.range ∙ ap (λ p. p.z) c.high-high.ensures);
    })
    (record {
      columns = (kept_length columns.first columns.first refl columns.first_in, kept_length columns.last columns.last refl columns.last_in);
      rows = (kept_length rows.first rows.first refl rows.first_in, kept_length rows.last rows.last refl rows.last_in);
      raw_columns = (kept_length raw_columns.first raw_columns.first refl raw_columns.first_in, kept_length raw_columns.last raw_columns.last refl raw_columns.last_in);
      raw_rows = (kept_length raw_rows.first raw_rows.first refl raw_rows.first_in, kept_length raw_rows.last raw_rows.last refl raw_rows.last_in);
    })
    (kept_length _ _ c.get.ensures.value c.get.ensures.range) (kept_length _ _ c.get-2.ensures.value c.get-2.ensures.range)
