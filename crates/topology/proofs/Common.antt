-- The names that several files of these proofs take from elsewhere, passed on from one place.
pub use Rattle.interface.specs.Host.{Host, is_host, most_imps, same_host}
pub use Rattle.std.proofs.Common.{drop, subst, true, ◌≡◌}
pub use Rattle.std.proofs.Math.Nat.{div-add-mod}
pub use Rattle.std.proofs.lemmas.Bool.Decides.{nat_tests}
pub use Rattle.std.proofs.lemmas.Nat.{mod_below}
pub use Rattle.std.specs.List.{list_all, range_with_len}
pub use Rattle.toml.specs.Data.{Data}
pub use Rattle.toml.specs.View.{items_view}
pub use Rattle.topology.specs.Topology.{hosts_below, numbered_below}
pub use Rattle.topology.specs.declared.network.ImpHosts.{ImpHosts}
pub use Rattle.topology.specs.declared.network.LineEnds.{LineEnds}
