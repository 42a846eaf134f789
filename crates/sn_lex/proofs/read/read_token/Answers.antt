use Rattle.std.proofs.Common.{ℕ, ◌∷◌, refl, sym, ap, ◌∙◌}
use Rattle.sn_lex.proofs.Tokens.{read_or, reads_mark, stray_byte, lone_solidus, open_comment_at, hash_is, apostrophe_is, point_is, exclamation_is, quotation_is}
use Rattle.sn_lex.proofs.read.read_token.Goals as goal

pub returns-in-Number : goal.returns-in-Number
returns-in-Number c = read_or _ _ _ _ _ _ _ refl c.read_number.ensures (λ text is. is) refl c.ok_or.ensures.value

pub returns-in-Hash : goal.returns-in-Hash
returns-in-Hash c =
    let whole = c.in-Some.ensures.cases.0 ∙ ap (λ (k : ℕ). k ∷ c.in-Some.after.now) (hash_is c.in-Some.first.now (sym c.in-Hash.ensures)) in
    read_or _ _ _ _ _ _ _ whole c.read_instance_number.ensures (λ text is. is) refl c.ok_or-in-Hash.ensures.value

pub returns-in-Apostrophe : goal.returns-in-Apostrophe
returns-in-Apostrophe c =
    let whole = c.in-Some.ensures.cases.0 ∙ ap (λ (k : ℕ). k ∷ c.in-Some.after.now) (apostrophe_is c.in-Some.first.now (sym c.in-Apostrophe.ensures)) in
    read_or _ _ _ _ _ _ _ whole c.read_text.ensures (λ text is. is) refl c.ok_or-in-Apostrophe.ensures.value

pub returns-in-Point : goal.returns-in-Point
returns-in-Point c =
    let whole = c.in-Some.ensures.cases.0 ∙ ap (λ (k : ℕ). k ∷ c.in-Some.after.now) (point_is c.in-Some.first.now (sym c.in-Point.ensures)) in
    read_or _ _ _ _ _ _ _ whole c.read_enumeration.ensures (λ text is. is) refl c.ok_or-in-Point.ensures.value

pub returns-in-Exclamation : goal.returns-in-Exclamation
returns-in-Exclamation c =
    let whole = c.in-Some.ensures.cases.0 ∙ ap (λ (k : ℕ). k ∷ c.in-Some.after.now) (exclamation_is c.in-Some.first.now (sym c.in-Exclamation.ensures)) in
    read_or _ _ _ _ _ _ _ whole c.read_user_keyword.ensures (λ text is. is) refl c.ok_or-in-Exclamation.ensures.value

pub returns-in-Quotation : goal.returns-in-Quotation
returns-in-Quotation c =
    let whole = c.in-Some.ensures.cases.0 ∙ ap (λ (k : ℕ). k ∷ c.in-Some.after.now) (quotation_is c.in-Some.first.now (sym c.in-Quotation.ensures)) in
    read_or _ _ _ _ _ _ _ whole c.read_binary.ensures (λ text is. is) refl c.ok_or-in-Quotation.ensures.value

pub returns-in-Some-after_byte : goal.returns-in-Some-after_byte
returns-in-Some-after_byte c = (open_comment_at _ _ _ _ c.args.at c.in-Some.ensures.cases.0 c.requires (sym c.in-Solidus.ensures) c.in-Some-after_byte.ensures, refl)

pub returns-in-None : goal.returns-in-None
returns-in-None c = (lone_solidus _ _ _ c.args.at c.in-Some.ensures.cases.0 (sym c.in-Solidus.ensures) c.in-None.ensures, refl)

pub returns-in-Mark : goal.returns-in-Mark
returns-in-Mark c = reads_mark _ _ _ _ c.in-Some.ensures.cases.0 (sym c.in-Mark.ensures)

pub returns-in-Other : goal.returns-in-Other
returns-in-Other c = (stray_byte _ _ _ c.args.at c.in-Some.ensures.cases.0 c.requires (sym c.in-Other.ensures), refl)
