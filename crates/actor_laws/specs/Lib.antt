pub mod node_moves
pub mod house_moves
pub mod actor_agreement
pub mod whole_offers
pub mod standing
pub mod next
