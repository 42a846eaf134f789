use Rattle.std.proofs.Common.{◌≡◌, ◌++◌, ◌∷◌, [], drop, flat_map}
use Rattle.sn_lex.specs.declared.token.Token.TheVariants.{RightParen}
use Rattle.sn_p21.specs.Canonical.{words_text}
use Rattle.sn_p21.specs.Grammar.{entity_words, enclosed_words}
use Rattle.sn_p21.specs.Word.{mark}
use Rattle.sn_p21.proofs.write.put_parts.Given as goal

abbrev pub invariant-loop-part : goal.invariant-loop-part
invariant-loop-part l = l.out.items ++ words_text (flat_map entity_words (drop l.part-index l.parts) ++ mark RightParen ∷ []) ≡ l.fn.out.items ++ words_text (enclosed_words l.parts)
