-- MEANING: what a sink shows of itself, and what a write does to it (this project's own).
use Rattle.std.specs.Prelude.{ℕ, ◌≡◌, ◌≤◌, List, ◌++◌, length, Option, IsSome, option_map, Result, MatchResult}
use Rattle.sn_io.specs.Count.{count_after, Rises}

-- held: the bytes that it holds, where it tells them; taken: the number of bytes that it took, where it tells that;
-- faults: how many writes failed
pub record SinkState : Type 0 where
  pub held : Option (List ℕ)
  pub taken : Option ℕ
  pub faults : ℕ

-- where the bytes are told after, they were told before, and these bytes came behind them
abbrev pub Gains : Option (List ℕ) → Option (List ℕ) → List ℕ → Type 0
Gains before after bytes = IsSome after → after ≡ option_map (λ held. held ++ bytes) before

-- the sink took these bytes, and its count of faults did not fall
pub record Takes (before after : SinkState) (bytes : List ℕ) : Type 0 where
  pub gains : Gains before.held after.held bytes
  pub counts : after.taken ≡ option_map (λ taken. count_after taken (length bytes)) before.taken
  pub faults_stay : before.faults ≤ after.faults

-- the count of faults rose, and the sink took a front of the text
pub record TakesFront (before after : SinkState) (text : List ℕ) : Type 0 where
  pub front : List ℕ
  pub rest : List ℕ
  pub parts : text ≡ front ++ rest
  pub takes : Takes before after front
  pub rises : Rises before.faults after.faults

-- a text was written: whole, or up to the write that failed
abbrev pub Writes : {T E : Type 0} → Result T E → SinkState → SinkState → List ℕ → Type 0
Writes r before after text = MatchResult r (λ _. Takes before after text) (λ _. TakesFront before after text)
