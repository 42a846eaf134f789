-- MEANING (this project's own): what a file holds.
use Rattle.std.specs.Prelude.{List}
use Rattle.sn_p21.specs.declared.file.Entity.{Entity}
use Rattle.sn_p21.specs.declared.file.Instance.{Instance}
use Rattle.sn_p21.specs.declared.file.Section.{Section}

pub record Content : Type 0 where
  pub header : List Entity
  pub sections : List Section
  pub instances : List Instance
