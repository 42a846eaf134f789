use Rattle.std.proofs.Common.{rules, None, Some, inl, inr, refl, sym, ◌∙◌, IsSome}
use Rattle.std.specs.FinMap.{get}
use Rattle.sn_io.proofs.MemFilesLemmas.{bytes_at, opens-refused, opens-done}
use Rattle.sn_io.proofs.mem_files.MemFilesFiles.open.Goals as goal

-- no file has the name
pub returns-in_default-clause-err : goal.returns-in_default-clause-err
returns-in_default-clause-err c =
    let none = bytes_at c.args.name.now c.self.inside.files.items None (rw c.deref.ensures.value at c.in_default.ensures) in
    rw (← c.self.view_is, none) (search rules)

pub returns-in_default-clause-opens : goal.returns-in_default-clause-opens
returns-in_default-clause-opens c = opens-refused _ _ _ (returns-in_default-clause-err c)

pub returns-in_default-clause-fails : goal.returns-in_default-clause-fails
returns-in_default-clause-fails c =
    let none = bytes_at c.args.name.now c.self.inside.files.items None (rw c.deref.ensures.value at c.in_default.ensures) in
    (λ _. inr (rw (← c.self.view_is, none) refl), λ _. refl)

-- the call is listed
pub returns-then-listed-clause-err : goal.returns-then-listed-clause-err
returns-then-listed-clause-err c =
    let bytes = bytes_at c.args.name.now c.self.inside.files.items (Some c.in-Some.index) (rw c.deref.ensures.value at c.in-Some.ensures) in
    rw (← c.self.view_is, bytes) (search rules)

pub returns-then-listed-clause-opens : goal.returns-then-listed-clause-opens
returns-then-listed-clause-opens c = opens-refused _ _ _ (returns-then-listed-clause-err c)

-- the file is opened
pub returns-clause-ok : goal.returns-clause-ok
returns-clause-ok c =
    let bytes = bytes_at c.args.name.now c.self.inside.files.items (Some c.in-Some.index) (rw c.deref.ensures.value at c.in-Some.ensures) in
    rw (← c.self.view_is, bytes) (search rules)

pub returns-clause-opens : goal.returns-clause-opens
returns-clause-opens c =
    let bytes = bytes_at c.args.name.now c.self.inside.files.items (Some c.in-Some.index) (rw c.deref.ensures.value at c.in-Some.ensures) in
    (opens-done _ _ _ (rw (← c.self.view_is, bytes) refl) (returns-clause-ok c)).0

pub returns-clause-opened : goal.returns-clause-opened
returns-clause-opened c =
    let bytes = bytes_at c.args.name.now c.self.inside.files.items (Some c.in-Some.index) (rw c.deref.ensures.value at c.in-Some.ensures) in
    (opens-done _ _ _ (rw (← c.self.view_is, bytes) refl) (returns-clause-ok c)).1

pub returns-clause-fails : goal.returns-clause-fails
returns-clause-fails c =
    let bytes = bytes_at c.args.name.now c.self.inside.files.items (Some c.in-Some.index) (rw c.deref.ensures.value at c.in-Some.ensures) in
    let has : IsSome (get c.args.self.now.files c.args.name.now) = rw (← c.self.view_is, bytes) refl in
    (λ failed. cc, elim [ inl listed ↦ c.if-listed.ensures.1 listed | inr none ↦ sym none ∙ has ])
