-- What is promised of the definitions of `meaning`. `Demands`: demand 3, in the words of `Terms`; `Calls`: the same of calls and their
-- buffers; `Variants` and `CallVariants`: what would be false.
-- `Collisions`: the report on two specs, document 02's W1; `CollisionCalls`: the same of calls; `CollisionVariants`: what would be false.
-- `Keys`: canonical texts as keys, document 02's W13; `KeyCalls`: the same of calls; `KeyVariants`: what would be false.
-- `Accepted`: what an accepted spec is. `Facts`: what the definitions come to.
pub mod Accepted
pub mod Terms
pub mod Demands
pub mod Variants
pub mod Calls
pub mod CallVariants
pub mod Facts
pub mod Collisions
pub mod CollisionCalls
pub mod CollisionVariants
pub mod Keys
pub mod KeyCalls
pub mod KeyVariants
