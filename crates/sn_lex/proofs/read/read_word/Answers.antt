use Rattle.std.proofs.Common.{Some, None, codes}
use Rattle.std.proofs.lemmas.Slice.Eq.{strip_prefix_is}
use Rattle.std.proofs.lemmas.Bool.Decides.{Decides-eqb}
use Rattle.sn_lex.proofs.Names.{reads_file_start, reads_file_end, reads_keyword}
use Rattle.sn_lex.proofs.read.read_word.Goals as goal

pub returns-in-Some : goal.returns-in-Some
returns-in-Some c = reads_file_start _ _ (strip_prefix_is Decides-eqb c.args.bytes.now (codes "ISO-10303-21") (Some c.in-Some.after) c.in-Some.ensures.cases)

pub returns-in-Some-strip_prefix : goal.returns-in-Some-strip_prefix
returns-in-Some-strip_prefix c = reads_file_end _ _ (strip_prefix_is Decides-eqb c.args.bytes.now (codes "END-ISO-10303-21") (Some c.in-Some-strip_prefix.after) c.in-Some-strip_prefix.ensures.cases)

pub returns : goal.returns
returns c =
    reads_keyword _ _ _ c.requires c.split_name_bytes.ensures
    (strip_prefix_is Decides-eqb c.args.bytes.now (codes "ISO-10303-21") None c.in_default.ensures.cases)
    (strip_prefix_is Decides-eqb c.args.bytes.now (codes "END-ISO-10303-21") None c.in_default-strip_prefix.ensures.cases)
