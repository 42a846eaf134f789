use Rattle.sn_io.proofs.mem_files.MemFiles.is_next_listed.Goals as goal

pub returns : goal.returns
returns c = rw (← c.self.view_is) (rw (c.deref.ensures.value, c.from.ensures, c.from-2.ensures) at c.is_listed.ensures)
