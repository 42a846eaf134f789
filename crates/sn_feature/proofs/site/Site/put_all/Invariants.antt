use Rattle.std.proofs.Common.{◌≡◌, ◌++◌, true, map, take, drop}
use Rattle.std.specs.List.{list_all}
use Rattle.sn_feature.specs.Outline.{put, lands_in_range}
use Rattle.sn_feature.proofs.site.Site.put_all.Given as goal

-- the places so far, and the points that are left
abbrev pub invariant-loop-at : goal.invariant-loop-at
invariant-loop-at l = record {
  placed : l.points ≡ map (put l.self.frame) (take l.at l.fn.points) ++ drop l.at l.fn.points;
  reached : list_all (lands_in_range l.self.frame) (take l.at l.fn.points) ≡ true;
}
