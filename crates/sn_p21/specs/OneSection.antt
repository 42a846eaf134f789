-- MEANING (this project's own): a file of one plain section.
use Rattle.std.specs.Prelude.{List, [], ◌∷◌, length, None}
use Rattle.sn_p21.specs.declared.file.Entity.{Entity}
use Rattle.sn_p21.specs.declared.file.Instance.{Instance}
use Rattle.sn_p21.specs.Content.{Content}

-- these instances in one section that has no parameters
abbrev pub in_one_section : List Entity → List Instance → Content
in_one_section header instances = record { header = header; sections = (record { params = None; count = length instances }) ∷ []; instances = instances }
