use Rattle.std.proofs.Common.{ℕ, [], ◌∷◌, ◌++◌, ap, ◌∙◌}
use Rattle.std.specs.Prelude.{codes}
use Rattle.std.specs.Fmt.{digits}
use Rattle.sn_p21.specs.Canonical.{words_text}
use Rattle.sn_p21.specs.Grammar.{closing_words, rows_words}
use Rattle.sn_report.specs.declared.feature.Feature.TheVariants.{Slot}
use Rattle.sn_report.specs.Generated.{placement, instances_of, header, common_instances, steps_from, rows_of}
use Rattle.sn_report.proofs.SlotText.{HasLine, HaveLines, of_real, of_text, of_ref, of_none, of_list, of_simple, lines_written, behind, frame_words, one_section_words}
use Rattle.sn_report.proofs.laws.slots_are_written.Goals as goal

abbrev placed : (n at : ℕ) → HasLine (placement n at)
placed n at = of_simple n (codes "AXIS2_PLACEMENT_3D") _ (of_text [], (of_ref at, (of_none, (of_none, tt))))

abbrev lines : HaveLines (instances_of 0 (Slot 8 3))
unfolding digits
lines = (
  of_simple 100 (codes "SLOT") _ (of_text [], (of_ref 3, (of_list [] tt, (of_ref 101, (of_ref 103, (of_ref 106, (of_ref 107, (of_list [] tt, tt)))))))),
  (
    placed 101 102,
    (
      of_simple 102 (codes "CARTESIAN_POINT") _ (of_text [], (of_list _ (of_real (codes "20."), (of_real (codes "20."), (of_real (codes "20."), tt))), tt)),
      (
        of_simple 103 (codes "PLANE") _ (of_text [], (of_ref 104, tt)),
        (
          placed 104 105,
          (
            of_simple 105 (codes "CARTESIAN_POINT") _ (of_text [], (of_list _ (of_real (codes "0."), (of_real (codes "0."), (of_real (codes "-3."), tt))), tt)),
            (
              of_simple 106 (codes "LINEAR_PATH") _ (of_none, (of_ref 108, (of_ref 19, tt))),
              (
                of_simple 107 (codes "SQUARE_U_PROFILE") _ (of_none, (of_ref 23, (of_none, (of_none, (of_none, (of_none, tt)))))),
                (
                  of_simple 108 (codes "TOLERANCED_LENGTH_MEASURE") _ (of_real (codes "8."), (of_none, tt)),
                  (
                    of_simple 109 (codes "BOTTOM_AND_SIDE_FINISH_MILLING") _
                        (of_none, (of_none, (of_text [], (of_none, (of_none, (of_ref 12, (of_ref 18, (of_none, (of_none, (of_none, (of_none, (of_none, (of_real (codes "2."), (of_none, (of_none, (of_none, tt)))))))))))))))),
                    (of_simple 110 (codes "MACHINING_WORKINGSTEP") _ (of_text [], (of_ref 6, (of_ref 100, (of_ref 109, (of_none, tt))))), tt),
                  ),
                ),
              ),
            ),
          ),
        ),
      ),
    ),
  ),
)

pub returns : goal.returns
unfolding digits
returns c =
    let frame = frame_words header in
    let steps = steps_from 0 (Slot 8 3 ∷ []) in (
      words_text frame ++ words_text (rows_words (common_instances steps)),
      words_text closing_words,
      ap words_text (one_section_words header (rows_of (Slot 8 3 ∷ []))) ∙ behind frame closing_words (common_instances steps) (instances_of 0 (Slot 8 3)) _ (lines_written (instances_of 0 (Slot 8 3)) lines),
    )
