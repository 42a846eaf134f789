-- What may follow the settings that have been read so far.
use Rattle.std.proofs.Common.{◌≡◌, ℕ, ◌+◌, ◌-◌, ◌≤◌, ◌<◌, List, [], ◌∷◌, ◌++◌, length, drop, refl, sym, ap, ◌∙◌, subst, arith, length-append, length-drop, append_assoc}
use Rattle.sn_geom.specs.Decimal.{HasOneNumber, ScalesToOne}
use Rattle.sn_words.specs.Command.{Departs, words_of}
use Rattle.sn_words.specs.Reading.{EndsSeen, MayFollow, StopsAt, TakesSetting, nothing_seen}
use Rattle.sn_words.specs.declared.seen.Seen.{Seen}
use Rattle.sn_words.proofs.Departures.{departs_behind}
use Rattle.sn_words.proofs.SettingLemmas.{ends_here, passed, preceded}

-- the words from the first place to another lead from nothing to what has been seen
pub record Leads (words : List (List ℕ)) (first at : ℕ) (seen : Seen) : Type 0 where
  pub front : List (List ℕ)
  pub order : drop first words ≡ front ++ drop at words
  pub count : at ≡ first + length front
  pub within : at ≤ length words
  pub to : (w : List (List ℕ)) (all : Seen) → EndsSeen nothing_seen (front ++ w) all → EndsSeen seen w all
  pub from : (w : List (List ℕ)) (all : Seen) → EndsSeen seen w all → EndsSeen nothing_seen (front ++ w) all

pub leads_start : (words : List (List ℕ)) (first : ℕ) → first ≤ length words → Leads words first first nothing_seen
leads_start words first within = record {
  front = [];
  order = refl;
  count = omega arith;
  within = within;
  to = λ w all h. h;
  from = λ w all h. h;
}

counted : (words first rest : List (List ℕ)) (at next : ℕ) → drop at words ≡ first ++ rest → rest ≡ drop next words → at < next → next ≤ length words
    → next ≡ at + length first
counted words first rest at next e f later within =
    let sizes : length words - at ≡ length first + length rest = sym (length-drop at words) ∙ (ap length e ∙ length-append first rest) in
    let size : length rest ≡ length words - next = ap length f ∙ length-drop next words in
    omega arith

pub leads_more : HasOneNumber → ScalesToOne → (words : List (List ℕ)) (first at next : ℕ) (old new : Seen) → Leads words first at old
    → TakesSetting words at next old new → Leads words first next new
leads_more one once words first at next old new leads takes =
    let s = takes.setting in
    let front = leads.front ++ words_of s in
    let step = counted words (words_of s) (drop next words) at next takes.order refl takes.later takes.within in
    record {
      front = front;
      order = leads.order ∙ (ap (λ t. leads.front ++ t) takes.order ∙ sym (append_assoc leads.front (words_of s) (drop next words)));
      count = let before = leads.count in (let size = length-append leads.front (words_of s) in omega arith);
      within = takes.within;
      to = λ w all h.
          subst (λ g. EndsSeen g w all) (sym takes.new_is)
          (passed one once old s w all takes.read takes.fresh (leads.to (words_of s ++ w) all (subst (λ t. EndsSeen nothing_seen t all) (append_assoc leads.front (words_of s) w) h)));
      from = λ w all h.
          subst (λ t. EndsSeen nothing_seen t all) (sym (append_assoc leads.front (words_of s) w))
          (leads.from (words_of s ++ w) all (preceded old s w all takes.read takes.fresh (subst (λ g. EndsSeen g w all) takes.new_is h)));
    }

empty : (l : List (List ℕ)) → length l ≤ 0 → l ≡ []
empty [] h = refl
empty (w ∷ ws) h = absurd (omega arith)

nothing_behind : (words : List (List ℕ)) (at : ℕ) → length words ≤ at → drop at words ≡ []
nothing_behind words at past = empty (drop at words) (let size = length-drop at words in omega arith)

pub leads_end : (words : List (List ℕ)) (first at : ℕ) (seen : Seen) → Leads words first at seen → length words ≤ at → EndsSeen nothing_seen (drop first words) seen
leads_end words first at seen leads past =
    let whole : drop first words ≡ leads.front ++ [] = leads.order ∙ ap (λ t. leads.front ++ t) (nothing_behind words at past) in
    subst (λ t. EndsSeen nothing_seen t seen) (sym whole) (leads.from [] seen (ends_here seen))

pub leads_stop : (words : List (List ℕ)) (first at place : ℕ) (seen : Seen) → Leads words first at seen → StopsAt words at seen place → StopsAt words first nothing_seen place
leads_stop words first at place seen leads stops = record {
  behind = length leads.front + stops.behind;
  place_is = let before = leads.count in (let here = stops.place_is in omega arith);
  departs = subst (λ t. Departs (MayFollow nothing_seen) t (length leads.front + stops.behind)) (sym leads.order)
      (departs_behind (MayFollow nothing_seen) (MayFollow seen) leads.front (drop at words) stops.behind
      (λ w may. (may.0, leads.to w may.0 may.1)) (λ w may. (may.0, leads.from w may.0 may.1)) stops.departs);
}
