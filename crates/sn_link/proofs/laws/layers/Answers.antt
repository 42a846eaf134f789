use Rattle.sn_link.proofs.LayerLawLemmas.{an_axial_depth_apart, come_to_the_floor, the_list_of_layers, fed_or_lifted, along_their_strokes, where_the_last_cut, followed_in_layers}
use Rattle.sn_link.proofs.laws.layers.Goals as goal

pub returns : goal.returns
returns c = record {
  depths = an_axial_depth_apart;
  come_to_the_floor = come_to_the_floor;
  one_list = the_list_of_layers;
  links = fed_or_lifted;
  along = along_their_strokes;
  later = where_the_last_cut;
  trails = followed_in_layers c.clearing.ensures.same;
}
