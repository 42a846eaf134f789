use Rattle.std.proofs.Common.{◌≡◌, ℕ, List, [], drop, slice_index_or, option_map, refl, arith}
use Rattle.sn_io.specs.MemFiles.{left_after}
use Rattle.sn_io.specs.declared.mem_files.Opened.{Opened}
use Rattle.sn_io.proofs.MemFilesLemmas.{left_after-place, gives-read}
use Rattle.sn_io.proofs.mem_files.MemFilesFiles.read.Goals as goal

pub after-self-inside-requires : goal.after-self-inside-requires
after-self-inside-requires c = omega (arith, c.bytes_left.ensures.fits, c.copy_front-count.ensures.count)

pub returns-clause-ok : goal.returns-clause-ok
returns-clause-ok c =
    let place : Opened → List ℕ = λ opened. drop opened.given (slice_index_or c.self.inside.files.items opened.index ([], [])).1 in
    let left : option_map place c.after-self-inside.result ≡ left_after (place c.in-Some.opened) c.copy_front-count.result =
    rw c.after-self-inside.ensures (left_after-place place _ _ _ _ refl) in
    rw (← c.self.view_is, c.in-Some.is, left, c.count_up-self-inside.ensures, c.count_up-self-inside-2.ensures) refl

pub returns-clause-count : goal.returns-clause-count
returns-clause-count c = rw (← c.self.view_is, c.in-Some.is, ← c.deref.ensures.value, ← c.bytes_left.ensures.left) c.copy_front-count.ensures.count

pub returns-clause-front : goal.returns-clause-front
returns-clause-front c = rw (← c.self.view_is, c.in-Some.is, ← c.deref.ensures.value, ← c.bytes_left.ensures.left) c.copy_front-count.ensures.front

pub returns-clause-gives : goal.returns-clause-gives
returns-clause-gives c = gives-read _ _ c.args.buf.now _ _ c.requires.room (returns-clause-count c) (returns-clause-front c) (returns-clause-ok c)
