mod Accepted
mod MadeMessages
mod Takings
mod Deliveries
mod Misdirections
mod Given
mod Taking
